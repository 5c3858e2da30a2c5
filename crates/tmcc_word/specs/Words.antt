-- TMCC words (ARIB STD-B31 chapter 3: 204 bits, B0 to B203, one for each symbol).
use Rattle.std.specs.Prelude.{ℕ, Bool, true, false, Option, Some, None, List, ◌∷◌, ◌++◌, replicate}
use Rattle.isdbt_base.specs.declared.kinds.Modulation.{Modulation}
use Rattle.isdbt_base.specs.declared.kinds.Modulation.TheVariants.{Qpsk, Qam16, Qam64}
use Rattle.isdbt_base.specs.declared.kinds.Rate.{Rate}
use Rattle.isdbt_base.specs.declared.kinds.Rate.TheVariants.{R12, R23, R34, R56, R78}
use Rattle.isdbt_base.specs.declared.kinds.DepthCode.{DepthCode}
use Rattle.isdbt_base.specs.declared.kinds.DepthCode.TheVariants.{D0, D1, D2, D3}
use Rattle.isdbt_base.specs.Bits.{number_bits}
use Rattle.isdbt_base.specs.LayerParameters.{LayerParameters}
use Rattle.isdbt_base.specs.Parameters.{Parameters}
use Rattle.tmcc_word.specs.Fields.{TmccFields}
use Rattle.tmcc_word.specs.CyclicCode.{parity_of}

-- the code of a modulation
abbrev pub modulation_code : Modulation → ℕ
modulation_code Qpsk = 1
modulation_code Qam16 = 2
modulation_code Qam64 = 3

-- the code of an inner rate
abbrev pub rate_code : Rate → ℕ
rate_code R12 = 0
rate_code R23 = 1
rate_code R34 = 2
rate_code R56 = 3
rate_code R78 = 4

-- the code of a time interleaving length
abbrev pub depth_code : DepthCode → ℕ
depth_code D0 = 0
depth_code D1 = 1
depth_code D2 = 2
depth_code D3 = 3

-- a layer's 13 bits: ones where it is not used
abbrev pub layer_field : Option LayerParameters → List Bool
layer_field None = replicate 13 true
layer_field (Some l) = number_bits 3 (modulation_code l.modulation) ++ number_bits 3 (rate_code l.rate) ++ number_bits 3 (depth_code l.depth) ++ number_bits 4 l.segments

-- a setting's 40 bits: the partial reception flag and the layers
unfoldable pub setting_field : Parameters → List Bool
setting_field s = s.partial ∷ layer_field (Some s.a) ++ layer_field s.b ++ layer_field s.c

-- a next setting's 40 bits: ones where there is none
abbrev pub next_field : Option Parameters → List Bool
next_field None = replicate 40 true
next_field (Some s) = setting_field s

-- the sync word of even and of odd frames
abbrev pub sync_code : Bool → ℕ
sync_code false = 0b0011010111101110
sync_code true = 0b1100101000010001

-- bits B20 to B121: system, countdown, start-up, the setting, the next setting, and reserved ones
unfoldable pub information_bits : TmccFields → List Bool
information_bits i = false ∷ false ∷ number_bits 4 i.countdown ++ i.start_up ∷ setting_field i.now ++ next_field i.next ++ replicate 15 true

-- the word of a frame: reference, sync word, segment type, information and parity
unfoldable pub word_of : TmccFields → Bool → List Bool
word_of i odd = false ∷ number_bits 16 (sync_code odd) ++ replicate 3 false ++ information_bits i ++ parity_of (information_bits i)
