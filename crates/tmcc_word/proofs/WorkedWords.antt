-- Worked words.
use Rattle.std.proofs.Common.{◌≡◌, refl, Some, None, true, false, [], ◌∷◌, ◌++◌, replicate, Err}
use Rattle.std.specs.Prelude.{filter, not, slice_index_or, slice_range, slice_set}
use Rattle.std.specs.List.{range_with_len}
use Rattle.isdbt_base.specs.declared.kinds.Modulation.TheVariants.{Qpsk, Qam64}
use Rattle.isdbt_base.specs.declared.kinds.Rate.TheVariants.{R23, R34}
use Rattle.isdbt_base.specs.declared.kinds.DepthCode.TheVariants.{D2, D3}
use Rattle.isdbt_base.specs.Parameters.{Parameters}
use Rattle.isdbt_base.specs.Bits.{number_bits, number_from, bits_number}
use Rattle.tmcc_word.specs.declared.fault.TmccFault.TheVariants as faults
use Rattle.tmcc_word.specs.Fields.{TmccFields}
use Rattle.tmcc_word.specs.CyclicCode.{parity_of, remainder}
use Rattle.tmcc_word.specs.Words.{word_of, information_bits, setting_field}
use Rattle.tmcc_word.specs.Reading.{read, setting_at, layer_field_at}

-- the parity of a last one: the bits at these places are set
parity_one : filter (λ i. slice_index_or (parity_of (replicate 101 false ++ true ∷ [])) i false) (range_with_len 0 82) ≡ 4 ∷ 5 ∷ 10 ∷ 14 ∷ 15 ∷ 25 ∷ 29 ∷ 33 ∷ 41 ∷ 45 ∷ 47 ∷ 57 ∷ 59 ∷ 63 ∷ 71 ∷ 77 ∷ 81 ∷ []
unfolding parity_of remainder number_bits number_from
parity_one = refl

abbrev two_layers : Parameters
two_layers = record { partial = true; a = record { segments = 1; modulation = Qpsk; rate = R23; depth = D3 }; b = Some (record { segments = 12; modulation = Qam64; rate = R34; depth = D2 }); c = None }

abbrev first_info : TmccFields
first_info = record { start_up = false; countdown = 15; now = two_layers; next = None }

-- B0 to B53 of the first frame
word_bits : bits_number (slice_range (word_of first_info false) 0 54) ≡ 0b0_0011010111101110_000_00111101_0010010110001_0110100101100
unfolding word_of information_bits setting_field number_bits number_from parity_of remainder
word_bits = refl

-- B54 to B121
word_ones : slice_range (word_of first_info false) 54 122 ≡ replicate 68 true
unfolding word_of information_bits setting_field number_bits number_from parity_of remainder
word_ones = refl

word_bad : read (slice_set (word_of first_info false) 203 (not (slice_index_or (word_of first_info false) 203 false))) ≡ Err faults.Parity
unfolding read word_of information_bits setting_field number_bits number_from parity_of remainder setting_at layer_field_at
word_bad = refl
