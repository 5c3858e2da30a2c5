-- The lines of a listing: one for each frame.
use Rattle.std.specs.Prelude.{ℕ, Bool, true, false, Option, Some, None, [], ◌∷◌, ◌++◌, codes, decimal}
use Rattle.isdbt_base.specs.declared.kinds.Mode.{Mode}
use Rattle.isdbt_base.specs.Parameters.{Parameters}
use Rattle.setting_words.specs.declared.lines.BtsLine.{BtsLine}
use Rattle.setting_words.specs.declared.lines.CellsLine.{CellsLine}
use Rattle.setting_words.specs.SettingWords.{Word, setting_word}

abbrev pub parity_text : Bool → Word
parity_text true = codes " odd"
parity_text false = codes " even"

-- what begins both lines
abbrev pub frame_text : ℕ → Bool → ℕ → Word
frame_text frame odd countdown = codes "frame " ++ decimal frame ++ parity_text odd ++ codes " countdown " ++ decimal countdown

-- the line of a frame of broadcast packets
abbrev pub bts_line : BtsLine → Word
bts_line l = frame_text l.frame l.odd l.countdown ++ codes " A " ++ decimal l.a ++ codes " B " ++ decimal l.b ++ codes " C " ++ decimal l.c ++ codes " none " ++ decimal l.unused ++ 10 ∷ []

-- the next setting, if one is announced
abbrev pub next_text : Mode → Option Parameters → Word
next_text mode None = codes "-"
next_text mode (Some s) = setting_word mode s

-- how many bits of the TMCC word were restored, where words are corrected
abbrev pub restored_text : Option ℕ → Word
restored_text None = []
restored_text (Some n) = codes " restored " ++ decimal n

-- the line of a frame of cells
abbrev pub cells_line : CellsLine → Word
cells_line l = frame_text l.frame l.odd l.countdown ++ codes " now " ++ setting_word l.mode l.now ++ codes " next " ++ next_text l.mode l.next ++ restored_text l.restored ++ 10 ∷ []
