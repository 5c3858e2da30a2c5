-- The bits of numbers that hold inputs and outputs.
use Rattle.std.proofs.Common.{◌≡◌, ℕ, ◌+◌, ◌-◌, ◌*◌, ◌/◌, ◌%◌, ◌^◌, ◌<◌, ◌≤◌, min, Bool, true, false, refl, ap, arith, inl, inr, sym, ◌∙◌, List, get_or}
use Rattle.std.specs.Prelude.{◌==◌, bit_or, bit_xor}
use Rattle.std.specs.Int.{bit_at}
use Rattle.std.proofs.lemmas.Bool.{cases_lt}
use Rattle.std.proofs.lemmas.Bool.Decides.{leb_tells}
use Rattle.std.proofs.lemmas.Nat.{shr-shr, and_mask, or_shifted}
use Rattle.std.proofs.lemmas.Nat.Bits.{bit_at_and, bit_at_xor, bit_at_ones, bit_at-lt, bit_at_cat_low, bit_at_cat_high}
use Rattle.isdbt_base.specs.Bits.{◌⊕◌}
use Rattle.conv_punct.specs.CodedBits.{earlier_bit, x_bit, y_bit}
use Rattle.conv_punct.specs.MotherCode.{word_bit, AreNewest}
use Rattle.conv_punct.specs.StandsFor.{bits_of}

-- ---- earlier inputs

pub earlier_bit-here : (u : ℕ → Bool) (i d : ℕ) → d ≤ i → earlier_bit u i d ≡ u (i - d)
earlier_bit-here u i d h =
    elim (leb_tells d i) [
      | inl within ↦ rw within.0 refl
      | inr beyond ↦ absurd (omega (arith, beyond.1))
    ]

pub earlier_bit-none : (u : ℕ → Bool) (i d : ℕ) → i < d → earlier_bit u i d ≡ false
earlier_bit-none u i d h =
    elim (leb_tells d i) [
      | inl within ↦ absurd (omega (arith, within.1))
      | inr beyond ↦ rw beyond.0 refl
    ]

-- the inputs before two steps that are equally far apart are alike
pub earlier_bit-shift : (u : ℕ → Bool) (i d k : ℕ) → earlier_bit u (i + k) (d + k) ≡ earlier_bit u i d
earlier_bit-shift u i d k =
    elim (leb_tells d i) [
      | inl within ↦ (let e : i + k - (d + k) ≡ i - d = omega arith in earlier_bit-here u (i + k) (d + k) (omega (arith, within.1)) ∙ ap u e ∙ sym (earlier_bit-here u i d within.1))
      | inr beyond ↦ earlier_bit-none u (i + k) (d + k) (omega (arith, beyond.1)) ∙ sym (earlier_bit-none u i d beyond.1)
    ]

-- ---- bits of numbers

bit-sum : (a b : ℕ) → a < 2 → b < 2 → ((a + b) % 2 == 1) ≡ (a == 1) ⊕ (b == 1)
bit-sum a b h k =
    elim (cases_lt a 1) [
      | inl a0 ↦ (let e : a ≡ 0 = omega arith in elim (cases_lt b 1) [
        | inl b0 ↦ (let f : b ≡ 0 = omega arith in rw (e, f) refl)
        | inr b1 ↦ (let f : b ≡ 1 = omega arith in rw (e, f) refl)
      ])
      | inr a1 ↦ (let e : a ≡ 1 = omega arith in elim (cases_lt b 1) [
        | inl b0 ↦ (let f : b ≡ 0 = omega arith in rw (e, f) refl)
        | inr b1 ↦ (let f : b ≡ 1 = omega arith in rw (e, f) refl)
      ])
    ]

pub word_bit-xor : (a b d : ℕ) → word_bit (bit_xor a b) d ≡ word_bit a d ⊕ word_bit b d
word_bit-xor a b d = ap (λ n. n == 1) (bit_at_xor a b d) ∙ bit-sum (bit_at a d) (bit_at b d) (bit_at-lt a d) (bit_at-lt b d)

pub word_bit-shr : (n k d : ℕ) → word_bit (n / 2 ^ k) d ≡ word_bit n (k + d)
word_bit-shr n k d = ap (λ m. m % 2 == 1) (shr-shr n k d)

bit_at-mod : (n k d : ℕ) → d < k → bit_at (n % 2 ^ k) d ≡ bit_at n d
bit_at-mod n k d h =
    ap (λ m. bit_at m d) (sym (and_mask n k))
    ∙ bit_at_and n (2 ^ k - 1) d
    ∙ ap (min (bit_at n d)) (bit_at_ones k d h)
    ∙ (let l = bit_at-lt n d in omega (arith, l))

pub word_bit-mod : (n k d : ℕ) → d < k → word_bit (n % 2 ^ k) d ≡ word_bit n d
word_bit-mod n k d h = ap (λ b. b == 1) (bit_at-mod n k d h)

-- ---- a byte behind a number

-- a number with a byte behind it, as 64 bits hold it
pub with_byte : (n byte : ℕ) → byte < 256 → bit_or (n * 256 % 2 ^ 64) byte ≡ (n % 2 ^ 56) * 2 ^ 8 + byte
with_byte n byte h =
    let e : n * 256 % 2 ^ 64 ≡ (n % 2 ^ 56) * 2 ^ 8 = omega arith in
    ap (λ a. bit_or a byte) e ∙ or_shifted (n % 2 ^ 56) 8 byte h

pub with_byte-low : (n byte d : ℕ) → byte < 256 → d < 8 → word_bit (bit_or (n * 256 % 2 ^ 64) byte) d ≡ word_bit byte d
with_byte-low n byte d h k = ap (λ m. word_bit m d) (with_byte n byte h) ∙ ap (λ b. b == 1) (bit_at_cat_low (n % 2 ^ 56) 8 byte d k)

pub with_byte-high : (n byte d : ℕ) → byte < 256 → 8 ≤ d → d < 64 → word_bit (bit_or (n * 256 % 2 ^ 64) byte) d ≡ word_bit n (d - 8)
with_byte-high n byte d h k l =
    ap (λ m. word_bit m d) (with_byte n byte h)
    ∙ ap (λ b. b == 1) (bit_at_cat_high (n % 2 ^ 56) 8 byte d h k)
    ∙ word_bit-mod n 56 (d - 8) (omega arith)

-- bit d of byte k
pub bits_of-byte : (bytes : List ℕ) (k d : ℕ) → d < 8 → bits_of bytes (8 * k + (7 - d)) ≡ word_bit (get_or bytes k 0) d
bits_of-byte bytes k d h =
    let q : (8 * k + (7 - d)) / 8 ≡ k = omega arith in
    let r : 7 - (8 * k + (7 - d)) % 8 ≡ d = omega arith in
    ap (λ m. word_bit (get_or bytes m 0) (7 - (8 * k + (7 - d)) % 8)) q ∙ ap (word_bit (get_or bytes k 0)) r

-- the newest inputs go on with a byte
pub AreNewest-byte : (u : ℕ → Bool) (i count word byte : ℕ) → byte < 256 → count ≤ 56 → AreNewest word count u i → ((d : ℕ) → d < 8 → word_bit byte d ≡ u (i + (7 - d))) → AreNewest (bit_or (word * 256 % 2 ^ 64) byte) (count + 8) u (i + 8)
AreNewest-byte u i count word byte h few newest bits d k =
    elim (cases_lt d 8) [
      | inl low ↦ (let e : i + (7 - d) ≡ i + 8 - (d + 1) = omega arith in
          with_byte-low word byte d h low ∙ bits d low ∙ ap u e ∙ sym (earlier_bit-here u (i + 8) (d + 1) (omega arith)))
      | inr high ↦ (let e : d - 8 + 1 + 8 ≡ d + 1 = omega arith in
          with_byte-high word byte d h high (omega arith) ∙ newest (d - 8) (omega arith) ∙ sym (earlier_bit-shift u i (d - 8 + 1) 8) ∙ ap (earlier_bit u (i + 8)) e)
    ]

-- ---- outputs

swap : (a b c : Bool) → (a ⊕ b) ⊕ c ≡ (a ⊕ c) ⊕ b
swap true true true = refl
swap true true false = refl
swap true false true = refl
swap true false false = refl
swap false true true = refl
swap false true false = refl
swap false false true = refl
swap false false false = refl

-- the bits of the sum of a number and of itself four times shifted
five-bits : (n a b c e d : ℕ) → word_bit (bit_xor (bit_xor (bit_xor (bit_xor n (n / 2 ^ a)) (n / 2 ^ b)) (n / 2 ^ c)) (n / 2 ^ e)) d ≡ word_bit n d ⊕ word_bit n (a + d) ⊕ word_bit n (b + d) ⊕ word_bit n (c + d) ⊕ word_bit n (e + d)
five-bits n a b c e d =
    let na = n / 2 ^ a in
    let nb = n / 2 ^ b in
    let nc = n / 2 ^ c in
    let ne = n / 2 ^ e in
    word_bit-xor (bit_xor (bit_xor (bit_xor n na) nb) nc) ne d
    ∙ ap (λ x. x ⊕ word_bit ne d) (word_bit-xor (bit_xor (bit_xor n na) nb) nc d)
    ∙ ap (λ x. x ⊕ word_bit nc d ⊕ word_bit ne d) (word_bit-xor (bit_xor n na) nb d)
    ∙ ap (λ x. x ⊕ word_bit nb d ⊕ word_bit nc d ⊕ word_bit ne d) (word_bit-xor n na d)
    ∙ ap (λ x. word_bit n d ⊕ x ⊕ word_bit nb d ⊕ word_bit nc d ⊕ word_bit ne d) (word_bit-shr n a d)
    ∙ ap (λ x. word_bit n d ⊕ word_bit n (a + d) ⊕ x ⊕ word_bit nc d ⊕ word_bit ne d) (word_bit-shr n b d)
    ∙ ap (λ x. word_bit n d ⊕ word_bit n (a + d) ⊕ word_bit n (b + d) ⊕ x ⊕ word_bit ne d) (word_bit-shr n c d)
    ∙ ap (λ x. word_bit n d ⊕ word_bit n (a + d) ⊕ word_bit n (b + d) ⊕ word_bit n (c + d) ⊕ x) (word_bit-shr n e d)

-- bit d + k of the inputs before step i is the input k steps before step i - 1 - d
newest-earlier : (u : ℕ → Bool) (i count word d k : ℕ) → AreNewest word count u i → k + d < count → d < i → word_bit word (k + d) ≡ earlier_bit u (i - 1 - d) k
newest-earlier u i count word d k newest h l =
    let e : i ≡ i - 1 - d + (d + 1) = omega arith in
    let f : k + d + 1 ≡ k + (d + 1) = omega arith in
    newest (k + d) h ∙ ap (λ m. earlier_bit u m (k + d + 1)) e ∙ ap (earlier_bit u (i - 1 - d + (d + 1))) f ∙ earlier_bit-shift u (i - 1 - d) k (d + 1)

newest-own : (u : ℕ → Bool) (i count word d : ℕ) → AreNewest word count u i → d < count → d < i → word_bit word d ≡ u (i - 1 - d)
newest-own u i count word d newest h l =
    let e : i - (d + 1) ≡ i - 1 - d = omega arith in
    newest d h ∙ earlier_bit-here u i (d + 1) (omega arith) ∙ ap u e

pub x_word-bit : (u : ℕ → Bool) (i count n d : ℕ) → AreNewest n (count + 6) u i → count ≤ i → d < count → word_bit (bit_xor (bit_xor (bit_xor (bit_xor n (n / 4)) (n / 8)) (n / 64)) (n / 2)) d ≡ x_bit u (i - 1 - d)
x_word-bit u i count n d newest few h =
    let m = i - 1 - d in
    let b0 = newest-own u i (count + 6) n d newest (omega arith) (omega arith) in
    let b1 = newest-earlier u i (count + 6) n d 1 newest (omega arith) (omega arith) in
    let b2 = newest-earlier u i (count + 6) n d 2 newest (omega arith) (omega arith) in
    let b3 = newest-earlier u i (count + 6) n d 3 newest (omega arith) (omega arith) in
    let b6 = newest-earlier u i (count + 6) n d 6 newest (omega arith) (omega arith) in
    five-bits n 2 3 6 1 d
    ∙ rw (b0, b1, b2, b3, b6) refl
    ∙ swap (u m ⊕ earlier_bit u m 2 ⊕ earlier_bit u m 3) (earlier_bit u m 6) (earlier_bit u m 1)
    ∙ ap (λ x. x ⊕ earlier_bit u m 6) (swap (u m ⊕ earlier_bit u m 2) (earlier_bit u m 3) (earlier_bit u m 1))
    ∙ ap (λ x. x ⊕ earlier_bit u m 3 ⊕ earlier_bit u m 6) (swap (u m) (earlier_bit u m 2) (earlier_bit u m 1))

pub y_word-bit : (u : ℕ → Bool) (i count n d : ℕ) → AreNewest n (count + 6) u i → count ≤ i → d < count → word_bit (bit_xor (bit_xor (bit_xor (bit_xor n (n / 4)) (n / 8)) (n / 64)) (n / 32)) d ≡ y_bit u (i - 1 - d)
y_word-bit u i count n d newest few h =
    let m = i - 1 - d in
    let b0 = newest-own u i (count + 6) n d newest (omega arith) (omega arith) in
    let b2 = newest-earlier u i (count + 6) n d 2 newest (omega arith) (omega arith) in
    let b3 = newest-earlier u i (count + 6) n d 3 newest (omega arith) (omega arith) in
    let b5 = newest-earlier u i (count + 6) n d 5 newest (omega arith) (omega arith) in
    let b6 = newest-earlier u i (count + 6) n d 6 newest (omega arith) (omega arith) in
    five-bits n 2 3 6 5 d
    ∙ rw (b0, b2, b3, b5, b6) refl
    ∙ swap (u m ⊕ earlier_bit u m 2 ⊕ earlier_bit u m 3) (earlier_bit u m 6) (earlier_bit u m 5)
