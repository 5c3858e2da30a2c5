-- The lines that list the frames of a stream of cells, one for each frame whose word is read.
use Rattle.std.specs.Prelude.{ℕ, Bool, true, false, Option, Some, None, Ok, Err, Result, List, []}
use Rattle.isdbt_base.specs.declared.kinds.Mode.{Mode}
use Rattle.setting_words.specs.Lines.{cells_line}
use Rattle.tmcc_word.specs.declared.fault.TmccFault.{TmccFault}
use Rattle.tmcc_word.specs.Fields.{TmccFields}
use Rattle.tmcc_word.specs.Reading.{read}
use Rattle.tmcc_fix.specs.NearCodewords.{differing}
use Rattle.tmcc_fix.specs.Corrected.{corrected}
use Rattle.seg_receiver.specs.CellStream.{View}

-- how many bits of a word are restored, where words are corrected
unfoldable pub restored : Bool → List Bool → Option ℕ
restored false came = None
restored true came = Some (differing came (corrected came))

-- the line of what the word of a frame of this mode says, of which so many bits were restored, nothing where the word is refused
abbrev pub word_line : Mode → ℕ → Option ℕ → Result (TmccFields × Bool) TmccFault → List ℕ
word_line mode f changed (Err e) = []
word_line mode f changed (Ok i) = cells_line (record { frame = f; odd = i.1; countdown = i.0.countdown; mode = mode; now = i.0.now; next = i.0.next; restored = changed })

-- the line of frame f, its settings written in its own mode
unfoldable pub frame_line : View → ℕ → List ℕ
frame_line v f = word_line (v.mode f) f (restored v.fix (v.came f)) (read (v.word f))
