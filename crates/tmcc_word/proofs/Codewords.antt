-- Codewords: multiples of the generator.
use Rattle.std.proofs.Common.{◌≡◌, ℕ, zero, suc, ◌+◌, ◌*◌, ◌^◌, ◌<◌, Bool, true, false, refl, arith, ap, sym, ◌∙◌, subst, inl, inr, List, [], ◌∷◌, ◌++◌, length, lit<}
use Rattle.std.specs.Prelude.{◌==◌, bit_xor, if◌then◌else◌}
use Rattle.std.specs.Int.{bit_at}
use Rattle.std.specs.Int.Bits.{xor_assoc, xor_self, xor_zero_r, xor_zero_l}
use Rattle.std.proofs.Math.Nat.{pow-suc}
use Rattle.std.proofs.lemmas.Nat.{xor_comm, xor_lt, shl_below, pow_pos}
use Rattle.std.proofs.lemmas.Nat.Bits.{bit_at_xor, bit_at_above}
use Rattle.std.proofs.lemmas.Bool.Decides.{eqb_tells}
use Rattle.isdbt_base.specs.Bits.{number_bits, bits_number, ◌⊕◌}
use Rattle.isdbt_base.proofs.BitLaws.{number_from-append, bits_number-lt}
use Rattle.tmcc_word.specs.CyclicCode.{generator, generator_times, IsCodeword, remainder, parity_of, bit_sum}
use Rattle.tmcc_word.proofs.Numbers.{number_from-split, number_bits-number, length-bit_sum, bits_number-bit_sum}
use Rattle.tmcc_word.proofs.Remainders.{remainder-xor, bit_at-shifted, xor-shifted, parity-multiple}

-- the generator shifted, or nothing
abbrev shift : Bool → ℕ → ℕ
shift q k = if q then generator * 2 ^ k else 0

shift-lt : (q : Bool) (k : ℕ) → shift q k < 2 ^ (83 + k)
shift-lt true k = shl_below generator 83 k (lit< tt)
shift-lt false k = pow_pos (83 + k)

generator_times-lt : (q : List Bool) → generator_times q < 2 ^ (82 + length q)
unfolding generator_times
generator_times-lt [] = lit< tt
generator_times-lt (q ∷ qs) =
    let k = length qs in
    let size : 82 + suc k ≡ 83 + k = omega arith in
    let more : 2 ^ (83 + k) ≡ 2 ^ (82 + k) * 2 = (let e : 83 + k ≡ suc (82 + k) = omega arith in ap (λ n. 2 ^ n) e ∙ pow-suc 2 (82 + k)) in
    let rest = generator_times-lt qs in
    subst (λ n. bit_xor (shift q k) (generator_times qs) < 2 ^ n) (sym size) (xor_lt (83 + k) (shift q k) (generator_times qs) (shift-lt q k) (omega (arith, more, rest)))

xor-back : (a b : ℕ) → bit_xor (bit_xor a b) a ≡ b
xor-back a b = ap (λ n. bit_xor n a) (xor_comm a b) ∙ xor_assoc b a a ∙ ap (bit_xor b) (xor_self a) ∙ xor_zero_r b

xor-forth : (a b : ℕ) → bit_xor a (bit_xor b a) ≡ b
xor-forth a b = xor_comm a (bit_xor b a) ∙ xor_assoc b a a ∙ ap (bit_xor b) (xor_self a) ∙ xor_zero_r b

-- a multiple leaves no remainder
remainder-times : (q : List Bool) → remainder (length q) (generator_times q) ≡ 0
unfolding remainder generator_times
remainder-times [] = refl
remainder-times (true ∷ qs) =
    let k = length qs in
    let g = generator * 2 ^ k in
    let rest = generator_times qs in
    let low : bit_at rest (82 + k) ≡ 0 = bit_at_above rest (82 + k) (82 + k) (generator_times-lt qs) (omega arith) in
    let high : bit_at g (82 + k) ≡ 1 = bit_at-shifted generator k 82 in
    let top : bit_at (bit_xor g rest) (82 + k) ≡ 1 = bit_at_xor g rest (82 + k) ∙ rw (high, low) refl in
    ap (λ b. remainder k (if b == 1 then bit_xor (bit_xor g rest) g else bit_xor g rest)) top
    ∙ ap (remainder k) (xor-back g rest) ∙ remainder-times qs
remainder-times (false ∷ qs) =
    let k = length qs in
    let g = generator * 2 ^ k in
    let rest = generator_times qs in
    let low : bit_at rest (82 + k) ≡ 0 = bit_at_above rest (82 + k) (82 + k) (generator_times-lt qs) (omega arith) in
    ap (λ n. remainder k (if bit_at n (82 + k) == 1 then bit_xor n g else n)) (xor_zero_l rest)
    ∙ ap (λ b. remainder k (if b == 1 then bit_xor rest g else rest)) low
    ∙ remainder-times qs

-- what leaves no remainder is a multiple
pub times-remainder : (k p : ℕ) → remainder k p ≡ 0 → (q : List Bool) × (length q ≡ k) × (generator_times q ≡ p)
unfolding remainder generator_times
times-remainder zero p e = ([], refl, sym e)
times-remainder (suc k) p e =
    elim (eqb_tells (bit_at p (82 + k)) 1) [
      | inl one ↦ (let q = times-remainder k (bit_xor p (generator * 2 ^ k)) (rw one.0 at e) in
          (true ∷ q.0, ap suc q.1, rw (q.1, q.2) (xor-forth (generator * 2 ^ k) p)))
      | inr other ↦ (let q = times-remainder k p (rw other.0 at e) in
          (false ∷ q.0, ap suc q.1, rw q.2 (xor_zero_l p)))
    ]

-- the codewords are the bits that leave no remainder
pub codeword-remainder : (bits : List Bool) → IsCodeword bits → remainder 102 (bits_number bits) ≡ 0
codeword-remainder bits (q, size, e) = ap (remainder 102) (sym e) ∙ ap (λ k. remainder k (generator_times q)) (sym size) ∙ remainder-times q

pub remainder-codeword : (bits : List Bool) → remainder 102 (bits_number bits) ≡ 0 → IsCodeword bits
remainder-codeword bits e = times-remainder 102 (bits_number bits) e

-- ---- sums

shift-sum : (a b : Bool) (k : ℕ) → shift (a ⊕ b) k ≡ bit_xor (shift a k) (shift b k)
shift-sum true true k = sym (xor_self (generator * 2 ^ k))
shift-sum true false k = sym (xor_zero_r (generator * 2 ^ k))
shift-sum false true k = sym (xor_zero_l (generator * 2 ^ k))
shift-sum false false k = refl

xor-pairs : (a b c d : ℕ) → bit_xor (bit_xor a b) (bit_xor c d) ≡ bit_xor (bit_xor a c) (bit_xor b d)
xor-pairs a b c d =
    xor_assoc a b (bit_xor c d)
    ∙ ap (bit_xor a) (sym (xor_assoc b c d) ∙ ap (λ n. bit_xor n d) (xor_comm b c) ∙ xor_assoc c b d)
    ∙ sym (xor_assoc a c (bit_xor b d))

generator_times-sum : (xs ys : List Bool) → length xs ≡ length ys → generator_times (bit_sum xs ys) ≡ bit_xor (generator_times xs) (generator_times ys)
unfolding generator_times
generator_times-sum [] [] e = refl
generator_times-sum [] (y ∷ ys) e = absurd (omega arith)
generator_times-sum (x ∷ xs) [] e = absurd (omega arith)
generator_times-sum (x ∷ xs) (y ∷ ys) e =
    let same : length xs ≡ length ys = omega arith in
    let k = length xs in
    ap (λ n. bit_xor (shift (x ⊕ y) n) (generator_times (bit_sum xs ys))) (length-bit_sum xs ys same)
    ∙ ap (bit_xor (shift (x ⊕ y) k)) (generator_times-sum xs ys same)
    ∙ ap (λ n. bit_xor n (bit_xor (generator_times xs) (generator_times ys))) (shift-sum x y k)
    ∙ xor-pairs (shift x k) (shift y k) (generator_times xs) (generator_times ys)
    ∙ ap (λ n. bit_xor (bit_xor (shift x k) (generator_times xs)) (bit_xor (shift y n) (generator_times ys))) same

pub codeword-sum : (xs ys : List Bool) → length xs ≡ length ys → IsCodeword xs → IsCodeword ys → IsCodeword (bit_sum xs ys)
codeword-sum xs ys e (p, p-size, p-is) (q, q-size, q-is) =
    let same : length p ≡ length q = omega arith in (
      bit_sum p q,
      length-bit_sum p q same ∙ p-size,
      generator_times-sum p q same ∙ ap (λ n. bit_xor n (generator_times q)) p-is ∙ ap (bit_xor (bits_number xs)) q-is ∙ sym (bits_number-bit_sum xs ys e),
    )

-- ---- parity

pub codeword-parity : (bits : List Bool) → length bits ≡ 102 → IsCodeword (bits ++ parity_of bits)
codeword-parity bits e = remainder-codeword (bits ++ parity_of bits) (parity-multiple bits e)

same-from_xor : (a b : ℕ) → bit_xor a b ≡ 0 → b ≡ a
same-from_xor a b e = sym (xor_zero_l b) ∙ ap (λ n. bit_xor n b) (sym e) ∙ xor_assoc a b b ∙ ap (bit_xor a) (xor_self b) ∙ xor_zero_r a

pub parity-only : (bits rest : List Bool) → length bits ≡ 102 → length rest ≡ 82 → IsCodeword (bits ++ rest) → rest ≡ parity_of bits
unfolding parity_of
parity-only bits rest e f is =
    let n = bits_number bits * 2 ^ 82 in
    let r = bits_number rest in
    let small : r < 2 ^ 82 = bits_number-lt 82 rest f in
    let joined : bits_number (bits ++ rest) ≡ bit_xor n r =
    number_from-append 0 bits rest ∙ number_from-split (bits_number bits) rest ∙ ap (λ k. bits_number bits * 2 ^ k + r) f ∙ xor-shifted (bits_number bits) 82 r small in
    let none : bit_xor (remainder 102 n) r ≡ 0 = sym (remainder-xor 102 n r small) ∙ ap (remainder 102) (sym joined) ∙ codeword-remainder (bits ++ rest) is in
    sym (number_bits-number rest) ∙ ap (λ k. number_bits k r) f ∙ ap (number_bits 82) (same-from_xor (remainder 102 n) r none)
