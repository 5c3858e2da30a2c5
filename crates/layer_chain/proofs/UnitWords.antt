-- The outer words of a frame whose units are the decided bytes at their places.
use Rattle.std.proofs.Common.{◌≡◌, ℕ, ◌+◌, ◌*◌, ◌<◌, Bool, List, ◌∷◌, ap, arith, ◌∙◌, sym}
use Rattle.std.specs.Prelude.{slice_index, bit_xor}
use Rattle.std.proofs.Math.Nat.{mul-add-mod_self_left}
use Rattle.isdbt_base.proofs.RangeLaws.{map-same}
use Rattle.energy_prbs.specs.Sequence.{byte_of_bits, sequence_byte}
use Rattle.byte_inter.specs.BytePlaces.{byte_place}
use Rattle.layer_chain.specs.SentBytes.{dispersal_byte}
use Rattle.layer_chain.specs.OuterWords.{outer_word}
use Rattle.layer_chain.specs.UnitWords.{word_in}

-- the dispersal begins anew with each frame
dispersal-frame : (t f n m : ℕ) → m ≡ 204 * t * f + n → dispersal_byte t n ≡ dispersal_byte t m
dispersal-frame t f n m is = ap sequence_byte (sym (mul-add-mod_self_left (204 * t) f n)) ∙ ap (λ k. dispersal_byte t k) (sym is)

-- where the units of frame f of an epoch are the decided bytes at their places, unit j is that of the outer word of packet f t + j
pub unit-word : (t f j : ℕ) (decided : ℕ → Bool) (units : List ℕ) → j < t
    → ((n : ℕ) → n < 204 * t → slice_index units n ≡ byte_of_bits (λ i. decided (8 * byte_place t (204 * t * f + n) + i)))
    → word_in t units j ≡ outer_word t decided (f * t + j)
unfolding word_in outer_word
unit-word t f j decided units h bytes =
    ap (λ b. 0x47 ∷ b) (map-same _ _ 0 203 (λ a k l.
    let place : 204 * (f * t + j) + a ≡ 204 * t * f + (204 * j + a) = omega arith in
    ap (λ b. bit_xor b (dispersal_byte t (204 * j + a))) (bytes (204 * j + a) (omega arith) ∙ ap (λ n. byte_of_bits (λ i. decided (8 * byte_place t n + i))) (sym place))
    ∙ ap (λ b. bit_xor (byte_of_bits (λ i. decided (8 * byte_place t (204 * (f * t + j) + a) + i))) b) (dispersal-frame t f (204 * j + a) (204 * (f * t + j) + a) place)))
