-- The line that an outcome writes to standard error.
use Rattle.std.specs.Prelude.{◌≡◌, ℕ, ◌≤◌, List, [], ◌∷◌, ◌++◌, length, take, codes, decimal}
use Rattle.std.specs.declared.option.Option.{Option}
use Rattle.isdbt_base.specs.declared.kinds.Layer.{Layer}
use Rattle.isdbt_base.specs.declared.kinds.Layer.TheVariants as layers
use Rattle.edge_io.specs.declared.shelf.Seat.{Seat}
use Rattle.edge_io.specs.declared.shelf.Seat.TheVariants as seats
use Rattle.edge_io.specs.Known.{append_known}
use Rattle.edge_io.specs.Causes.{Rose}
use Rattle.tmcc_word.specs.declared.fault.TmccFault.{TmccFault}
use Rattle.tmcc_word.specs.declared.fault.TmccFault.TheVariants.{Sync, SegmentType, Parity, System, LayerField, Segments}
use Rattle.isdbt_cli.specs.declared.fault.Outcome.{Outcome}
use Rattle.isdbt_cli.specs.declared.fault.Outcome.TheVariants.{Done, Fault}
use Rattle.isdbt_cli.specs.declared.fault.RunFault.TheVariants.{Usage, BadSync, Truncated, HeadMisplaced, NoHead, WrongCount, BadTmcc, Unannounced, NotPartial, OpenFault, ReadFault, WriteFault, TooLong, NoMemory, BadHead}
use Rattle.setting_words.specs.SettingWords.{Word}

abbrev pub seat_text : Seat → Word
seat_text seats.A = codes "A"
seat_text seats.B = codes "B"
seat_text seats.C = codes "C"
seat_text seats.In = codes "IN"

abbrev pub layer_letter : Layer → Word
layer_letter layers.A = codes "A"
layer_letter layers.B = codes "B"
layer_letter layers.C = codes "C"

-- why a TMCC word is refused
abbrev pub reason_text : TmccFault → Word
reason_text Sync = codes "sync"
reason_text SegmentType = codes "segment type"
reason_text Parity = codes "parity"
reason_text System = codes "system"
reason_text (LayerField layer) = codes "layer " ++ layer_letter layer
reason_text (Segments sum) = codes "segments " ++ decimal sum

-- a fault's line with its line feed, and nothing where the command is done
abbrev pub line_of : Outcome → Word
line_of (Done frames) = []
line_of (Fault (Usage word)) = codes "isdbt: 1 usage: word " ++ decimal word ++ 10 ∷ []
line_of (Fault (BadSync seat packet)) = codes "isdbt: 2 no sync byte: input " ++ seat_text seat ++ codes " packet " ++ decimal packet ++ 10 ∷ []
line_of (Fault (Truncated seat over)) = codes "isdbt: 3 truncated: input " ++ seat_text seat ++ codes " over " ++ decimal over ++ 10 ∷ []
line_of (Fault (HeadMisplaced frame slot)) = codes "isdbt: 4 frame head misplaced: frame " ++ decimal frame ++ codes " slot " ++ decimal slot ++ 10 ∷ []
line_of (Fault NoHead) = codes "isdbt: 5 no frame head" ++ 10 ∷ []
line_of (Fault (WrongCount frame layer found)) = codes "isdbt: 6 wrong count: frame " ++ decimal frame ++ codes " layer " ++ layer_letter layer ++ codes " found " ++ decimal found ++ 10 ∷ []
line_of (Fault (BadTmcc frame reason)) = codes "isdbt: 7 tmcc: frame " ++ decimal frame ++ codes " " ++ reason_text reason ++ 10 ∷ []
line_of (Fault (Unannounced frame)) = codes "isdbt: 8 unannounced setting: frame " ++ decimal frame ++ 10 ∷ []
line_of (Fault (NotPartial frame)) = codes "isdbt: 9 no partial reception: frame " ++ decimal frame ++ 10 ∷ []
line_of (Fault (OpenFault seat)) = codes "isdbt: 10 cannot open: " ++ seat_text seat ++ 10 ∷ []
line_of (Fault (ReadFault seat)) = codes "isdbt: 11 read fault: " ++ seat_text seat ++ 10 ∷ []
line_of (Fault WriteFault) = codes "isdbt: 12 write fault" ++ 10 ∷ []
line_of (Fault TooLong) = codes "isdbt: 13 too long" ++ 10 ∷ []
line_of (Fault NoMemory) = codes "isdbt: 14 no memory" ++ 10 ∷ []
line_of (Fault (BadHead frame byte)) = codes "isdbt: 15 bad frame head: frame " ++ decimal frame ++ codes " byte " ++ decimal byte ++ 10 ∷ []

-- the line was written, or a front part of it where a write failed
pub record IsTold (line : Word) (before after : Option (List ℕ)) (faults faults' : ℕ) : Type 0 where
  pub sent : ℕ
  pub written : after ≡ append_known before (take sent line)
  pub whole : (Rose faults faults' → ⊥) → length line ≤ sent
