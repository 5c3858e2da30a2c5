-- The register as a number: the byte that follows from it, and what it is after that byte.
use Rattle.std.proofs.Common.{◌≡◌, ℕ, zero, suc, ◌+◌, ◌-◌, ◌*◌, ◌/◌, ◌%◌, ◌<◌, ◌≤◌, min, Bool, true, false, refl, ap, arith, inl, inr, sym, ◌∙◌}
use Rattle.std.specs.Prelude.{◌==◌, bit_and, bit_or, bit_xor}
use Rattle.std.specs.Int.{from_bool, bit_at}
use Rattle.std.proofs.lemmas.Bool.Decides.{eqb_tells}
use Rattle.std.proofs.lemmas.Bool.{cases_lt}
use Rattle.std.proofs.lemmas.Nat.{shr-shr, and_le_r, or_shifted}
use Rattle.std.proofs.lemmas.Nat.Bits.{bit_at_and, bit_at_xor, bit_at_ones, bit_at-lt, same_from_bits_below, bit_at_cat_low, bit_at_cat_high}
use Rattle.energy_prbs.specs.Sequence.{bit_sum, sequence_bit, earlier_bit, byte_of_bits, sequence_byte}
use Rattle.energy_prbs.proofs.SequenceLaws.{earlier_bit-sent, earlier_bit-shift, sequence_bit-recurrence}

from_bool-bit : (n i : ℕ) → from_bool (bit_at n i == 1) ≡ bit_at n i
from_bool-bit n i =
    elim (eqb_tells (bit_at n i) 1) [
      | inl one ↦ rw one.1 refl
      | inr other ↦ rw other.0 (let k = bit_at-lt n i in omega (arith, k, other.1))
    ]

from_bool-test : (b : Bool) → (from_bool b == 1) ≡ b
from_bool-test true = refl
from_bool-test false = refl

from_bool-le : (b : Bool) → from_bool b ≤ 1
from_bool-le true = omega arith
from_bool-le false = omega arith

-- the bits of eight bits as a byte
byte-bit : (a b c d e f g h : ℕ) → a ≤ 1 → b ≤ 1 → c ≤ 1 → d ≤ 1 → e ≤ 1 → f ≤ 1 → g ≤ 1 → h ≤ 1 → (n : ℕ) → n ≡ 128 * a + 64 * b + 32 * c + 16 * d + 8 * e + 4 * f + 2 * g + h → (n / 1 % 2 ≡ h) × (n / 2 % 2 ≡ g) × (n / 4 % 2 ≡ f) × (n / 8 % 2 ≡ e) × (n / 16 % 2 ≡ d) × (n / 32 % 2 ≡ c) × (n / 64 % 2 ≡ b) × (n / 128 % 2 ≡ a) × (n < 256)
byte-bit a b c d e f g h ha hb hc hd he hf hg hh n s = (omega arith, omega arith, omega arith, omega arith, omega arith, omega arith, omega arith, omega arith, omega arith)

byte_of_bits-facts : (b : ℕ → Bool) → let n = byte_of_bits b in (n / 1 % 2 ≡ from_bool (b 7)) × (n / 2 % 2 ≡ from_bool (b 6)) × (n / 4 % 2 ≡ from_bool (b 5)) × (n / 8 % 2 ≡ from_bool (b 4)) × (n / 16 % 2 ≡ from_bool (b 3)) × (n / 32 % 2 ≡ from_bool (b 2)) × (n / 64 % 2 ≡ from_bool (b 1)) × (n / 128 % 2 ≡ from_bool (b 0)) × (n < 256)
byte_of_bits-facts b = byte-bit _ _ _ _ _ _ _ _ (from_bool-le (b 0)) (from_bool-le (b 1)) (from_bool-le (b 2)) (from_bool-le (b 3)) (from_bool-le (b 4)) (from_bool-le (b 5)) (from_bool-le (b 6)) (from_bool-le (b 7)) (byte_of_bits b) refl

pub byte_of_bits-lt : (b : ℕ → Bool) → byte_of_bits b < 256
byte_of_bits-lt b = (byte_of_bits-facts b).8

pub bit_at-byte_of_bits : (b : ℕ → Bool) (i : ℕ) → i < 8 → bit_at (byte_of_bits b) i ≡ from_bool (b (7 - i))
bit_at-byte_of_bits b zero h = (byte_of_bits-facts b).0
bit_at-byte_of_bits b (suc zero) h = (byte_of_bits-facts b).1
bit_at-byte_of_bits b (suc (suc zero)) h = (byte_of_bits-facts b).2
bit_at-byte_of_bits b (suc (suc (suc zero))) h = (byte_of_bits-facts b).3
bit_at-byte_of_bits b (suc (suc (suc (suc zero)))) h = (byte_of_bits-facts b).4
bit_at-byte_of_bits b (suc (suc (suc (suc (suc zero))))) h = (byte_of_bits-facts b).5
bit_at-byte_of_bits b (suc (suc (suc (suc (suc (suc zero)))))) h = (byte_of_bits-facts b).6
bit_at-byte_of_bits b (suc (suc (suc (suc (suc (suc (suc zero))))))) h = (byte_of_bits-facts b).7
bit_at-byte_of_bits b (suc (suc (suc (suc (suc (suc (suc (suc i)))))))) h = absurd (omega arith)

-- the sum of two bits as numbers
sum-bit : (a b : Bool) → min ((from_bool b + from_bool a) % 2) 1 ≡ from_bool (bit_sum a b)
sum-bit true true = refl
sum-bit true false = refl
sum-bit false true = refl
sum-bit false false = refl

-- the byte that follows from a register
abbrev pub byte_from : ℕ → ℕ
byte_from r = bit_and (bit_xor (r / 128) (r / 64)) 255

-- the register after its byte
abbrev pub register_after : ℕ → ℕ → ℕ
register_after r byte = bit_or (bit_and r 127 * 256 % 65536) byte

abbrev pub HasBitsBefore : ℕ → ℕ → Type 0
HasBitsBefore r m = (d : ℕ) → d < 15 → (bit_at r d == 1) ≡ earlier_bit m (d + 1)

register-bit : (r m d : ℕ) → HasBitsBefore r m → d < 15 → bit_at r d ≡ from_bool (earlier_bit m (d + 1))
register-bit r m d bits h = sym (from_bool-bit r d) ∙ ap from_bool (bits d h)

-- the bits of the byte are the next bits of the sequence, the first highest
byte_from-bit : (r m i : ℕ) → HasBitsBefore r m → i < 8 → bit_at (byte_from r) i ≡ from_bool (sequence_bit (m + (7 - i)))
byte_from-bit r m i bits h =
    let old : bit_at (r / 128) i ≡ from_bool (earlier_bit m (7 + i + 1)) = ap (λ q. q % 2) (shr-shr r 7 i) ∙ register-bit r m (7 + i) bits (omega arith) in
    let new : bit_at (r / 64) i ≡ from_bool (earlier_bit m (6 + i + 1)) = ap (λ q. q % 2) (shr-shr r 6 i) ∙ register-bit r m (6 + i) bits (omega arith) in
    let x15 : 7 + i + 1 + (7 - i) ≡ 15 = omega arith in
    let x14 : 6 + i + 1 + (7 - i) ≡ 14 = omega arith in
    let oldest : earlier_bit (m + (7 - i)) 15 ≡ earlier_bit m (7 + i + 1) = ap (earlier_bit (m + (7 - i))) (sym x15) ∙ earlier_bit-shift m (7 + i + 1) (7 - i) (omega arith) in
    let newest : earlier_bit (m + (7 - i)) 14 ≡ earlier_bit m (6 + i + 1) = ap (earlier_bit (m + (7 - i))) (sym x14) ∙ earlier_bit-shift m (6 + i + 1) (7 - i) (omega arith) in
    bit_at_and (bit_xor (r / 128) (r / 64)) 255 i
    ∙ ap (min (bit_at (bit_xor (r / 128) (r / 64)) i)) (bit_at_ones 8 i h)
    ∙ ap (λ a. min a 1) (bit_at_xor (r / 128) (r / 64) i)
    ∙ ap (λ a. min ((a + bit_at (r / 64) i) % 2) 1) old
    ∙ ap (λ b. min ((from_bool (earlier_bit m (7 + i + 1)) + b) % 2) 1) new
    ∙ sum-bit (earlier_bit m (6 + i + 1)) (earlier_bit m (7 + i + 1))
    ∙ ap (λ a. from_bool (bit_sum a (earlier_bit m (7 + i + 1)))) (sym newest)
    ∙ ap (λ b. from_bool (bit_sum (earlier_bit (m + (7 - i)) 14) b)) (sym oldest)
    ∙ ap from_bool (sym (sequence_bit-recurrence (m + (7 - i))))

byte_from-lt : (r : ℕ) → byte_from r < 256
byte_from-lt r = let k = and_le_r (bit_xor (r / 128) (r / 64)) 255 in omega (arith, k)

pub byte_from-sequence : (r n : ℕ) → HasBitsBefore r (8 * n) → byte_from r ≡ sequence_byte n
unfolding sequence_byte
byte_from-sequence r n bits =
    let b : ℕ → Bool = λ i. sequence_bit (8 * n + i) in
    same_from_bits_below 8 (byte_from r) (byte_of_bits b) (byte_from-lt r) (byte_of_bits-lt b) (λ i h. byte_from-bit r (8 * n) i bits h ∙ sym (bit_at-byte_of_bits b i h))

register_after-sum : (r byte : ℕ) → byte < 256 → register_after r byte ≡ bit_and r 127 * 256 + byte
register_after-sum r byte h =
    let k = and_le_r r 127 in
    let e : bit_and r 127 * 256 % 65536 ≡ bit_and r 127 * 256 = omega (arith, k) in
    ap (λ a. bit_or a byte) e ∙ or_shifted (bit_and r 127) 8 byte h

pub register_after-bits : (r n : ℕ) → HasBitsBefore r (8 * n) → HasBitsBefore (register_after r (byte_from r)) (8 * (n + 1))
register_after-bits r n bits d h =
    let byte = byte_from r in
    let more : 8 * n + 8 ≡ 8 * (n + 1) = omega arith in
    ap (λ s. bit_at s d == 1) (register_after-sum r byte (byte_from-lt r))
    ∙ elim (cases_lt d 8) [
      | inl low ↦ (let place : 8 * n + (7 - d) ≡ 8 * (n + 1) - (d + 1) = omega arith in
          ap (λ v. v == 1) (bit_at_cat_low (bit_and r 127) 8 byte d low ∙ byte_from-bit r (8 * n) d bits low)
          ∙ from_bool-test (sequence_bit (8 * n + (7 - d)))
          ∙ ap sequence_bit place
          ∙ sym (earlier_bit-sent (8 * (n + 1)) (d + 1) (omega arith)))
      | inr high ↦ (let place : d - 8 + 1 + 8 ≡ d + 1 = omega arith in
          ap (λ v. v == 1) (bit_at_cat_high (bit_and r 127) 8 byte d (byte_from-lt r) high ∙ bit_at_and r 127 (d - 8) ∙ ap (min (bit_at r (d - 8))) (bit_at_ones 7 (d - 8) (omega arith)) ∙ (let k = bit_at-lt r (d - 8) in omega (arith, k)))
          ∙ bits (d - 8) (omega arith)
          ∙ sym (earlier_bit-shift (8 * n) (d - 8 + 1) 8 (omega arith))
          ∙ ap (λ k. earlier_bit k (d - 8 + 1 + 8)) more
          ∙ ap (earlier_bit (8 * (n + 1))) place)
    ]

pub register_after-lt : (r : ℕ) → register_after r (byte_from r) < 32768
register_after-lt r = let k = and_le_r r 127 in let b = byte_from-lt r in let e = register_after-sum r (byte_from r) b in omega (arith, k, b, e)
