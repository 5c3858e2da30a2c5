-- The words of a transmission: mode, guard interval and setting.
use Rattle.std.specs.Prelude.{ℕ, Bool, true, false, Option, Some, None, List, [], ◌++◌, codes, decimal}
use Rattle.isdbt_base.specs.declared.kinds.Mode.{Mode}
use Rattle.isdbt_base.specs.declared.kinds.Mode.TheVariants.{M1, M2, M3}
use Rattle.isdbt_base.specs.declared.kinds.Guard.{Guard}
use Rattle.isdbt_base.specs.declared.kinds.Guard.TheVariants.{G4, G8, G16, G32}
use Rattle.isdbt_base.specs.declared.kinds.Modulation.{Modulation}
use Rattle.isdbt_base.specs.declared.kinds.Modulation.TheVariants.{Qpsk, Qam16, Qam64}
use Rattle.isdbt_base.specs.declared.kinds.Rate.{Rate}
use Rattle.isdbt_base.specs.declared.kinds.Rate.TheVariants.{R12, R23, R34, R56, R78}
use Rattle.isdbt_base.specs.declared.kinds.DepthCode.{DepthCode}
use Rattle.isdbt_base.specs.LayerParameters.{LayerParameters}
use Rattle.isdbt_base.specs.Parameters.{Parameters}
use Rattle.isdbt_base.specs.Numbers.{time_depth}

-- a word is the bytes of its text
abbrev pub Word : Type 0
Word = List ℕ

abbrev pub mode_word : Mode → Word
mode_word M1 = codes "1"
mode_word M2 = codes "2"
mode_word M3 = codes "3"

abbrev pub guard_word : Guard → Word
guard_word G4 = codes "1/4"
guard_word G8 = codes "1/8"
guard_word G16 = codes "1/16"
guard_word G32 = codes "1/32"

abbrev pub modulation_text : Modulation → Word
modulation_text Qpsk = codes "qpsk"
modulation_text Qam16 = codes "16qam"
modulation_text Qam64 = codes "64qam"

abbrev pub rate_text : Rate → Word
rate_text R12 = codes "1/2"
rate_text R23 = codes "2/3"
rate_text R34 = codes "3/4"
rate_text R56 = codes "5/6"
rate_text R78 = codes "7/8"

-- time interleaving length in symbols
abbrev pub depth_text : Mode → DepthCode → Word
depth_text mode d = decimal (time_depth mode d)

-- segments:modulation:rate:time interleaving length
abbrev pub layer_text : Mode → LayerParameters → Word
layer_text mode l = decimal l.segments ++ codes ":" ++ modulation_text l.modulation ++ codes ":" ++ rate_text l.rate ++ codes ":" ++ depth_text mode l.depth

abbrev pub other_layer_text : Mode → Word → Option LayerParameters → Word
other_layer_text mode name None = []
other_layer_text mode name (Some l) = codes "," ++ name ++ codes ":" ++ layer_text mode l

abbrev pub partial_text : Bool → Word
partial_text true = codes ":partial"
partial_text false = []

-- a setting as one word
abbrev pub setting_word : Mode → Parameters → Word
setting_word mode s = codes "A:" ++ layer_text mode s.a ++ partial_text s.partial ++ other_layer_text mode (codes "B") s.b ++ other_layer_text mode (codes "C") s.c
