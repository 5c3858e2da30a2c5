-- Remainders taken bit by bit.
use Rattle.std.proofs.Common.{◌≡◌, ℕ, zero, suc, ◌+◌, ◌-◌, ◌*◌, ◌^◌, ◌≤◌, ◌<◌, Bool, false, refl, arith, ap, sym, ◌∙◌, inl, inr, List, length, drop, get_or, replicate, zero-add, add-zero, lit<}
use Rattle.std.specs.Prelude.{◌==◌, bit_xor, if◌then◌else◌}
use Rattle.std.specs.Int.{bit_at, from_bool}
use Rattle.std.specs.Int.Bits.{xor_zero_r}
use Rattle.std.proofs.lemmas.Nat.{xor_block, pow_pos, pow-add, shl_below}
use Rattle.std.proofs.lemmas.Nat.Bits.{bit_at_above, bit_at_cat_high}
use Rattle.std.proofs.lemmas.Bool.Decides.{eqb_tells}
use Rattle.std.proofs.lemmas.List.{length-drop, drop_all}
use Rattle.isdbt_base.specs.Bits.{number_from, bits_number}
use Rattle.isdbt_base.proofs.BitLaws.{bits_number-lt}
use Rattle.tmcc_word.specs.CyclicCode.{generator, remainder}
use Rattle.tmcc_word.proofs.Numbers.{number_from-split, number_from-zeros, number_from-more}

-- the coefficients behind may wait
pub remainder-shifted : (j k n s : ℕ) → s < 2 ^ k → remainder (j + k) (n * 2 ^ k + s) ≡ remainder k (remainder j n * 2 ^ k + s)
unfolding remainder
remainder-shifted zero k n s h = ap (λ m. remainder m (n * 2 ^ k + s)) (zero-add k)
remainder-shifted (suc j) k n s h =
    let p = n * 2 ^ k + s in
    let g = generator * 2 ^ j in
    let size : suc j + k ≡ suc (j + k) = omega arith in
    let place : 82 + (j + k) - k ≡ 82 + j = omega arith in
    let top : bit_at p (82 + (j + k)) ≡ bit_at n (82 + j) = bit_at_cat_high n k s (82 + (j + k)) h (omega arith) ∙ ap (bit_at n) place in
    let taken : bit_xor p (generator * 2 ^ (j + k)) ≡ bit_xor n g * 2 ^ k + s = ap (λ m. bit_xor p m) (ap (λ m. generator * m) (pow-add 2 j k) ∙ omega arith) ∙ xor_block k n g s 0 h (pow_pos k) ∙ ap (λ m. bit_xor n g * 2 ^ k + m) (xor_zero_r s) in
    ap (λ m. remainder m p) size
    ∙ ap (λ b. remainder (j + k) (if b == 1 then bit_xor p (generator * 2 ^ (j + k)) else p)) top
    ∙ (elim (eqb_tells (bit_at n (82 + j)) 1) [
      | inl one ↦ rw one.0 (ap (remainder (j + k)) taken ∙ remainder-shifted j k (bit_xor n g) s h)
      | inr other ↦ rw other.0 (remainder-shifted j k n s h)
    ])

-- higher coefficients that are zero change nothing
pub remainder-more : (j k p : ℕ) → p < 2 ^ (82 + k) → remainder (j + k) p ≡ remainder k p
unfolding remainder
remainder-more zero k p h = ap (λ m. remainder m p) (zero-add k)
remainder-more (suc j) k p h =
    let size : suc j + k ≡ suc (j + k) = omega arith in
    ap (λ m. remainder m p) size
    ∙ ap (λ b. remainder (j + k) (if b == 1 then bit_xor p (generator * 2 ^ (j + k)) else p)) (bit_at_above p (82 + k) (82 + (j + k)) h (omega arith))
    ∙ remainder-more j k p h

-- coefficients before and behind
pub remainder-number_from : (j n : ℕ) (bs : List Bool) → remainder (j + length bs) (number_from n bs) ≡ remainder (length bs) (number_from (remainder j n) bs)
remainder-number_from j n bs =
    ap (remainder (j + length bs)) (number_from-split n bs)
    ∙ remainder-shifted j (length bs) n (bits_number bs) (bits_number-lt (length bs) bs refl)
    ∙ ap (remainder (length bs)) (sym (number_from-split (remainder j n) bs))

-- one bit more
pub remainder-step : (n i : ℕ) (bs : List Bool) → i < length bs →
    remainder (length bs - (i + 1)) (number_from (remainder 1 (2 * n + from_bool (get_or bs i false))) (drop (i + 1) bs)) ≡ remainder (length bs - i) (number_from n (drop i bs))
remainder-step n i bs h =
    let m = 2 * n + from_bool (get_or bs i false) in
    let rest = drop (i + 1) bs in
    let size : length rest ≡ length bs - (i + 1) = length-drop (i + 1) bs in
    let more : 1 + length rest ≡ length bs - i = omega arith in
    ap (λ k. remainder k (number_from (remainder 1 m) rest)) (sym size)
    ∙ sym (remainder-number_from 1 m rest)
    ∙ ap (λ k. remainder k (number_from m rest)) more
    ∙ ap (remainder (length bs - i)) (number_from-more n i bs h)

-- no bit is left
pub remainder-end : (n i : ℕ) (bs : List Bool) → length bs ≤ i → n ≡ remainder (length bs - i) (number_from n (drop i bs))
unfolding remainder number_from
remainder-end n i bs h =
    let none : length bs - i ≡ 0 = omega arith in
    rw (none, drop_all i bs h) refl

-- the parity: zeros behind the bits
pub remainder-zeros : (bits : List Bool) → length bits ≡ 102 → remainder 82 (number_from (remainder 102 (bits_number bits)) (replicate 82 false)) ≡ remainder 102 (bits_number bits * 2 ^ 82)
remainder-zeros bits e =
    let n = bits_number bits in
    let r = remainder 102 n in
    let all = remainder-shifted 102 82 n 0 (lit< tt) in
    let more = remainder-more 82 102 (n * 2 ^ 82) (shl_below n 102 82 (bits_number-lt 102 bits e)) in
    ap (remainder 82) (number_from-zeros r 82 ∙ sym (add-zero (r * 2 ^ 82)))
    ∙ sym all
    ∙ ap (remainder 184) (add-zero (n * 2 ^ 82))
    ∙ more
