-- Numbers and the bits that spell them.
use Rattle.std.proofs.Common.{◌≡◌, ℕ, zero, suc, ◌+◌, ◌-◌, ◌*◌, ◌^◌, ◌≤◌, ◌<◌, Bool, true, false, refl, arith, ap, sym, ◌∙◌, List, [], ◌∷◌, length, drop, get_or, replicate, lit<}
use Rattle.std.specs.Prelude.{◌==◌, bit_xor}
use Rattle.std.specs.Int.{bit_at, from_bool}
use Rattle.std.proofs.Math.Nat.{pow-suc, pow-le-pow_right}
use Rattle.std.proofs.lemmas.Nat.{xor_block}
use Rattle.std.proofs.lemmas.Nat.Bits.{bit_at_cat_low, bit_at_cat_high}
use Rattle.std.proofs.lemmas.List.{drop_more}
use Rattle.isdbt_base.specs.Bits.{number_from, bits_number, number_bits, ◌⊕◌}
use Rattle.isdbt_base.proofs.BitLaws.{number_bits-suc, bits_number-lt}
use Rattle.isdbt_base.proofs.RangeLaws.{map-same}
use Rattle.tmcc_word.specs.CyclicCode.{bit_sum}

-- a number followed by bits
pub number_from-split : (n : ℕ) (bs : List Bool) → number_from n bs ≡ n * 2 ^ length bs + bits_number bs
unfolding number_from
number_from-split n [] = omega arith
number_from-split n (b ∷ bs) =
    let more : 2 ^ suc (length bs) ≡ 2 ^ length bs * 2 = pow-suc 2 (length bs) in
    let digit : n * 2 ^ suc (length bs) ≡ 2 * n * 2 ^ length bs = rw more (omega arith) in
    let whole = number_from-split (2 * n + from_bool b) bs in
    let part = number_from-split (2 * 0 + from_bool b) bs in
    omega (arith, digit, whole, part)

pub number_from-zeros : (n k : ℕ) → number_from n (replicate k false) ≡ n * 2 ^ k
unfolding number_from
number_from-zeros n zero = omega arith
number_from-zeros n (suc k) =
    let more : 2 ^ suc k ≡ 2 ^ k * 2 = pow-suc 2 k in
    number_from-zeros (2 * n + 0) k ∙ rw more (omega arith)

-- one bit more
pub number_from-more : (n i : ℕ) (bs : List Bool) → i < length bs → number_from (2 * n + from_bool (get_or bs i false)) (drop (i + 1) bs) ≡ number_from n (drop i bs)
unfolding number_from
number_from-more n i bs h = ap (number_from n) (sym (drop_more bs i false h))

from_bool-le : (b : Bool) → from_bool b ≤ 1
from_bool-le true = omega arith
from_bool-le false = omega arith

pub number-more-lt : (n i : ℕ) (b : Bool) → n < 2 ^ i → 2 * n + from_bool b < 2 ^ (i + 1)
number-more-lt n i b h =
    let more : 2 ^ suc i ≡ 2 ^ i * 2 = pow-suc 2 i in
    let size : 2 ^ (i + 1) ≡ 2 ^ suc i = ap (λ k. 2 ^ k) (omega arith) in
    let bit = from_bool-le b in
    omega (arith, more, size, bit, h)

-- a number of fewer than 16 bits
pub number-small : (n i : ℕ) → n < 2 ^ i → i < 16 → n < 32768
number-small n i h l =
    let few : i ≤ 15 = omega arith in
    let e : 2 ^ i ≤ 2 ^ 15 = pow-le-pow_right (lit< tt) few in
    omega (arith, e, h)

-- the bits that a number's bits spell
bit_at-top : (b : Bool) (w s : ℕ) → s < 2 ^ w → (bit_at (from_bool b * 2 ^ w + s) w == 1) ≡ b
bit_at-top b w s h =
    let low : w - w ≡ 0 = omega arith in
    ap (λ d. d == 1) (bit_at_cat_high (from_bool b) w s w h (omega arith) ∙ ap (bit_at (from_bool b)) low) ∙ digit b
  where
    digit : (b : Bool) → (bit_at (from_bool b) 0 == 1) ≡ b
    digit true = refl
    digit false = refl

number_bits-low : (a w s : ℕ) → number_bits w (a * 2 ^ w + s) ≡ number_bits w s
unfolding number_bits
number_bits-low a w s =
    map-same (λ i. bit_at (a * 2 ^ w + s) (w - 1 - i) == 1) (λ i. bit_at s (w - 1 - i) == 1) 0 w
    (λ k l m. ap (λ d. d == 1) (bit_at_cat_low a w s (w - 1 - k) (omega arith)))

pub number_bits-number : (bs : List Bool) → number_bits (length bs) (bits_number bs) ≡ bs
unfolding number_from number_bits
number_bits-number [] = refl
number_bits-number (b ∷ bs) =
    let w = length bs in
    let s = bits_number bs in
    let split : bits_number (b ∷ bs) ≡ from_bool b * 2 ^ w + s = number_from-split (2 * 0 + from_bool b) bs ∙ omega arith in
    ap (number_bits (suc w)) split
    ∙ number_bits-suc w (from_bool b * 2 ^ w + s)
    ∙ ap (λ d. d ∷ number_bits w (from_bool b * 2 ^ w + s)) (bit_at-top b w s (bits_number-lt w bs refl))
    ∙ ap (λ ds. b ∷ ds) (number_bits-low (from_bool b) w s ∙ number_bits-number bs)

-- sums
xor_bits : (a b : Bool) → bit_xor (from_bool a) (from_bool b) ≡ from_bool (a ⊕ b)
xor_bits true true = refl
xor_bits true false = refl
xor_bits false true = refl
xor_bits false false = refl

pub length-bit_sum : (xs ys : List Bool) → length xs ≡ length ys → length (bit_sum xs ys) ≡ length xs
length-bit_sum [] ys e = refl
length-bit_sum (x ∷ xs) [] e = absurd (omega arith)
length-bit_sum (x ∷ xs) (y ∷ ys) e = let f = length-bit_sum xs ys (omega arith) in omega (arith, f)

bits_number-cons : (b : Bool) (bs : List Bool) → bits_number (b ∷ bs) ≡ from_bool b * 2 ^ length bs + bits_number bs
unfolding number_from
bits_number-cons b bs = number_from-split (2 * 0 + from_bool b) bs ∙ omega arith

pub bits_number-bit_sum : (xs ys : List Bool) → length xs ≡ length ys → bits_number (bit_sum xs ys) ≡ bit_xor (bits_number xs) (bits_number ys)
unfolding number_from
bits_number-bit_sum [] [] e = refl
bits_number-bit_sum [] (y ∷ ys) e = absurd (omega arith)
bits_number-bit_sum (x ∷ xs) [] e = absurd (omega arith)
bits_number-bit_sum (x ∷ xs) (y ∷ ys) e =
    let same : length xs ≡ length ys = omega arith in
    let w = length xs in
    let first = bits_number-lt w xs refl in
    let second = bits_number-lt w ys (sym same) in
    bits_number-cons (x ⊕ y) (bit_sum xs ys)
    ∙ ap (λ k. from_bool (x ⊕ y) * 2 ^ k + bits_number (bit_sum xs ys)) (length-bit_sum xs ys same)
    ∙ ap (λ n. from_bool (x ⊕ y) * 2 ^ w + n) (bits_number-bit_sum xs ys same)
    ∙ ap (λ d. d * 2 ^ w + bit_xor (bits_number xs) (bits_number ys)) (sym (xor_bits x y))
    ∙ sym (xor_block w (from_bool x) (from_bool y) (bits_number xs) (bits_number ys) first second)
    ∙ ap (λ n. bit_xor n (from_bool y * 2 ^ w + bits_number ys)) (sym (bits_number-cons x xs))
    ∙ ap (λ k. bit_xor (bits_number (x ∷ xs)) (from_bool y * 2 ^ k + bits_number ys)) same
    ∙ ap (bit_xor (bits_number (x ∷ xs))) (sym (bits_number-cons y ys))
