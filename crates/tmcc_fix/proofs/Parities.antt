-- Each check covers an even number of the ones of a codeword.
use Rattle.std.proofs.Common.{◌≡◌, ℕ, suc, ◌+◌, ◌-◌, ◌*◌, ◌^◌, ◌%◌, ◌≤◌, ◌<◌, Bool, true, false, refl, arith, ap, sym, ◌∙◌, inl, inr, List, [], ◌∷◌, length, get_or}
use Rattle.std.specs.Prelude.{◌==◌, bit_xor}
use Rattle.std.specs.Int.{bit_at, from_bool}
use Rattle.std.specs.Int.Bits.{xor_zero_l}
use Rattle.std.proofs.lemmas.Nat.Bits.{bit_at_xor, bit_at-lt, bit_at-zero}
use Rattle.std.proofs.lemmas.List.{get_or_past}
use Rattle.std.proofs.lemmas.List.FromFn.{get_or-map-range_with_len}
use Rattle.std.proofs.lemmas.Bool.Decides.{eqb_tells, leb_tells}
use Rattle.isdbt_base.specs.Bits.{bits_number, number_bits}
use Rattle.tmcc_word.specs.CyclicCode.{generator, generator_times, IsCodeword}
use Rattle.tmcc_word.proofs.Numbers.{number_bits-number}
use Rattle.tmcc_fix.specs.declared.checks.TheConstants.{RESIDUES}
use Rattle.tmcc_fix.specs.Checks.{bit, place_of, parity_at}
use Rattle.tmcc_fix.proofs.GeneratorParities.{coefficient, polynomial_parity, generator-parity}
use Rattle.tmcc_fix.proofs.Sums.{sums-same, sums-zero, sums-parity}

coefficient-xor : (a b i : ℕ) → coefficient (bit_xor a b) i ≡ (coefficient a i + coefficient b i) % 2
coefficient-xor a b i =
    elim (leb_tells (suc i) 184) [
      | inl low ↦ rw low.0 (bit_at_xor a b (183 - i))
      | inr high ↦ rw high.0 refl
    ]

coefficient-zero : (i : ℕ) → coefficient 0 i ≡ 0
coefficient-zero i =
    elim (leb_tells (suc i) 184) [
      | inl low ↦ rw low.0 (bit_at-zero (183 - i))
      | inr high ↦ rw high.0 refl
    ]

parity-xor : (a b s : ℕ) → polynomial_parity (bit_xor a b) s ≡ (polynomial_parity a s + polynomial_parity b s) % 2
parity-xor a b s =
    let fa = λ (r : ℕ). coefficient a (place_of s r) in
    let fb = λ (r : ℕ). coefficient b (place_of s r) in
    let e = sums-parity fa fb RESIDUES in
    ap (λ n. n % 2) (sums-same (λ r. coefficient (bit_xor a b) (place_of s r)) (λ r. (fa r + fb r) % 2) RESIDUES (λ r. coefficient-xor a b (place_of s r)))
    ∙ omega (arith, e)

-- a multiple of the generator
multiple-parity : (q : List Bool) (s : ℕ) → length q ≤ 102 → s < 273 → polynomial_parity (generator_times q) s ≡ 0
unfolding generator_times
multiple-parity [] s h k = ap (λ n. n % 2) (sums-zero (λ r. coefficient 0 (place_of s r)) RESIDUES (λ r. coefficient-zero (place_of s r)))
multiple-parity (true ∷ qs) s h k =
    let first = generator-parity (length qs) s (omega arith) k in
    let rest = multiple-parity qs s (omega arith) k in
    parity-xor (generator * 2 ^ length qs) (generator_times qs) s ∙ rw (first, rest) refl
multiple-parity (false ∷ qs) s h k =
    ap (λ n. polynomial_parity n s) (xor_zero_l (generator_times qs)) ∙ multiple-parity qs s (omega arith) k

from_bool-bit : (n i : ℕ) → from_bool (bit_at n i == 1) ≡ bit_at n i
from_bool-bit n i =
    elim (eqb_tells (bit_at n i) 1) [
      | inl one ↦ rw one.1 refl
      | inr other ↦ rw other.0 (let k = bit_at-lt n i in omega (arith, k, other.1))
    ]

-- the bits of a list are those of the number that it spells
bit-number : (bits : List Bool) (i : ℕ) → i < length bits → bit bits i ≡ bit_at (bits_number bits) (length bits - 1 - i)
unfolding number_bits
bit-number bits i h =
    let n = bits_number bits in
    let f : ℕ → Bool = λ j. bit_at n (length bits - 1 - j) == 1 in
    ap (λ (bs : List Bool). from_bool (get_or bs i false)) (sym (number_bits-number bits))
    ∙ ap from_bool (get_or-map-range_with_len f 0 (length bits) i i false h (omega arith))
    ∙ from_bool-bit n (length bits - 1 - i)

bit-coefficient : (bits : List Bool) (i : ℕ) → length bits ≡ 184 → bit bits i ≡ coefficient (bits_number bits) i
bit-coefficient bits i e =
    elim (leb_tells (suc i) 184) [
      | inl low ↦ (let place : length bits - 1 - i ≡ 183 - i = omega (arith, e) in
          rw low.0 (bit-number bits i (let l = low.1 in omega (arith, l, e)) ∙ ap (bit_at (bits_number bits)) place))
      | inr high ↦ rw high.0 (ap from_bool (get_or_past bits i false (let l = high.1 in omega (arith, l, e))))
    ]

pub codeword-even : (bits : List Bool) (s : ℕ) → length bits ≡ 184 → IsCodeword bits → s < 273 → parity_at bits s ≡ 0
codeword-even bits s e (q, size, is) h =
    ap (λ n. n % 2) (sums-same (λ r. bit bits (place_of s r)) (λ r. coefficient (bits_number bits) (place_of s r)) RESIDUES (λ r. bit-coefficient bits (place_of s r) e))
    ∙ ap (λ n. polynomial_parity n s) (sym is)
    ∙ multiple-parity q s (omega (arith, size)) h
