-- Bits with their parity behind them are a multiple of the generator.
use Rattle.std.proofs.Common.{◌≡◌, ℕ, zero, suc, ◌+◌, ◌*◌, ◌/◌, ◌%◌, ◌^◌, ◌<◌, Bool, refl, arith, ap, sym, ◌∙◌, subst, inl, inr, List, ◌++◌, length, add-zero, lit<}
use Rattle.std.specs.Prelude.{◌==◌, bit_xor, if◌then◌else◌}
use Rattle.std.specs.Int.{bit_at}
use Rattle.std.specs.Int.Bits.{xor_assoc, xor_self, xor_zero_r, xor_zero_l}
use Rattle.std.proofs.Math.Nat.{mod-eq_of_lt, pow-suc}
use Rattle.std.proofs.lemmas.Nat.{xor_comm, xor_lt, xor_block, shl_below, div_below, pow_pos, mod_below, div-add-mod'}
use Rattle.std.proofs.lemmas.Nat.Bits.{bit_at_xor, bit_at_above, bit_at-lt, bit_at_cat_high}
use Rattle.std.proofs.lemmas.Bool.Decides.{eqb_tells}
use Rattle.isdbt_base.specs.Bits.{number_bits, bits_number}
use Rattle.isdbt_base.proofs.BitLaws.{number_from-append, number_from-bits, bits_number-lt}
use Rattle.tmcc_word.specs.CyclicCode.{generator, remainder, parity_of}

-- a number below 2 ^ 82 does not change which multiples of the generator are taken off
bit_at-low : (k p r : ℕ) → r < 2 ^ 82 → bit_at (bit_xor p r) (82 + k) ≡ bit_at p (82 + k)
bit_at-low k p r h =
    let e = bit_at_above r 82 (82 + k) h (omega arith) in
    let f = bit_at-lt p (82 + k) in
    bit_at_xor p r (82 + k) ∙ ap (λ b. (bit_at p (82 + k) + b) % 2) e ∙ omega (arith, f)

pub remainder-xor : (k p r : ℕ) → r < 2 ^ 82 → remainder k (bit_xor p r) ≡ bit_xor (remainder k p) r
unfolding remainder
remainder-xor zero p r h = refl
remainder-xor (suc k) p r h =
    let g = generator * 2 ^ k in
    ap (λ b. remainder k (if b == 1 then bit_xor (bit_xor p r) g else bit_xor p r)) (bit_at-low k p r h)
    ∙ (elim (eqb_tells (bit_at p (82 + k)) 1) [
      | inl one ↦ rw one.0 (ap (remainder k) (xor_assoc p r g ∙ ap (bit_xor p) (xor_comm r g) ∙ sym (xor_assoc p g r)) ∙ remainder-xor k (bit_xor p g) r h)
      | inr other ↦ rw other.0 (remainder-xor k p r h)
    ])

-- a number whose top bit is clear is below it
clear_top : (n q : ℕ) → q < 2 ^ suc n → bit_at q n ≡ 0 → q < 2 ^ n
clear_top n q h e =
    let more : 2 ^ suc n ≡ 2 ^ n * 2 = pow-suc 2 n in
    let small : q / 2 ^ n < 2 = div_below q (2 ^ n) 2 (pow_pos n) (omega (arith, more)) in
    let none : q / 2 ^ n ≡ 0 = omega (arith, e) in
    let parts = rw none at (div-add-mod' q (2 ^ n)) in
    let rest = mod_below q (2 ^ n) (pow_pos n) in
    omega (arith, parts, rest)

-- a number moved up by k bits
pub bit_at-shifted : (a k i : ℕ) → bit_at (a * 2 ^ k) (i + k) ≡ bit_at a i
bit_at-shifted a k i =
    ap (λ n. bit_at n (i + k)) (sym (add-zero (a * 2 ^ k))) ∙ bit_at_cat_high a k 0 (i + k) (pow_pos k) (omega arith) ∙ ap (bit_at a) (omega arith)

pub xor-shifted : (n k r : ℕ) → r < 2 ^ k → n * 2 ^ k + r ≡ bit_xor (n * 2 ^ k) r
xor-shifted n k r h =
    sym (ap (λ m. bit_xor m r) (sym (add-zero (n * 2 ^ k))) ∙ ap (bit_xor (n * 2 ^ k + 0)) low ∙ xor_block k n 0 0 r (pow_pos k) h ∙ rw (xor_zero_r n, xor_zero_l r) refl)
  where
    low : r ≡ 0 * 2 ^ k + r
    low = omega arith

pub remainder-lt : (k p : ℕ) → p < 2 ^ (82 + k) → remainder k p < 2 ^ 82
unfolding remainder
remainder-lt zero p h = h
remainder-lt (suc k) p h =
    let g = generator * 2 ^ k in
    let size : 82 + suc k ≡ suc (82 + k) = omega arith in
    let wide : p < 2 ^ suc (82 + k) = subst (λ n. p < 2 ^ n) size h in
    let top : bit_at g (82 + k) ≡ 1 = bit_at-shifted generator k 82 in
    let g-lt : g < 2 ^ suc (82 + k) = subst (λ n. g < 2 ^ n) (let e : 83 + k ≡ suc (82 + k) = omega arith in e) (shl_below generator 83 k (lit< tt)) in
    elim (eqb_tells (bit_at p (82 + k)) 1) [
      | inl one ↦ rw one.0 (remainder-lt k (bit_xor p g) (clear_top (82 + k) (bit_xor p g) (xor_lt (suc (82 + k)) p g wide g-lt) (bit_at_xor p g (82 + k) ∙ rw (one.1, top) refl)))
      | inr other ↦ rw other.0 (remainder-lt k p (clear_top (82 + k) p wide (let b = bit_at-lt p (82 + k) in omega (arith, b, other.1))))
    ]

pub parity-multiple : (bits : List Bool) → length bits ≡ 102 → remainder 102 (bits_number (bits ++ parity_of bits)) ≡ 0
unfolding parity_of
parity-multiple bits e =
    let n = bits_number bits in
    let r = remainder 102 (n * 2 ^ 82) in
    let small : r < 2 ^ 82 = remainder-lt 102 (n * 2 ^ 82) (shl_below n 102 82 (bits_number-lt 102 bits e)) in
    let joined : bits_number (bits ++ number_bits 82 r) ≡ bit_xor (n * 2 ^ 82) r =
    number_from-append 0 bits (number_bits 82 r) ∙ number_from-bits n 82 r ∙ ap (λ m. n * 2 ^ 82 + m) (mod-eq_of_lt small) ∙ xor-shifted n 82 r small in
    ap (remainder 102) joined ∙ remainder-xor 102 (n * 2 ^ 82) r small ∙ xor_self r
