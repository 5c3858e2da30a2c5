-- Bytes that are fed: their bits, and how many coded bits they have.
use Rattle.std.proofs.Common.{◌≡◌, ℕ, ◌+◌, ◌-◌, ◌*◌, ◌/◌, ◌%◌, ◌<◌, ◌≤◌, Bool, ap, arith, inl, inr, sym, ◌∙◌, List, ◌++◌, length, take, drop, get_or, get_or-take}
use Rattle.std.specs.Prelude.{bit_and}
use Rattle.std.proofs.Math.Nat.{mul-le-mul_left}
use Rattle.std.proofs.lemmas.Bool.{cases_lt}
use Rattle.std.proofs.lemmas.List.{get_or-drop, get_or_append_left, get_or-append-add, length-append, length-take, length-drop}
use Rattle.std.proofs.lemmas.Nat.{and_mask, and_le_r}
use Rattle.isdbt_base.specs.declared.kinds.Rate.{Rate}
use Rattle.isdbt_base.specs.declared.kinds.Rate.TheVariants.{R12, R23, R34, R56, R78}
use Rattle.isdbt_base.specs.Numbers.{rate_steps}
use Rattle.conv_punct.specs.CodedBits.{bit_of}
use Rattle.conv_punct.specs.MotherCode.{word_bit, AreNewest}
use Rattle.conv_punct.specs.StandsFor.{bits_of, BeginsWith}
use Rattle.conv_punct.proofs.WordLaws.{earlier_bit-here, earlier_bit-none, word_bit-mod}

-- ---- whole patterns

le-div : (rate : Rate) (x y : ℕ) → rate_steps rate * x ≤ y → x ≤ y / rate_steps rate
le-div R12 x y h = omega arith
le-div R23 x y h = omega arith
le-div R34 x y h = omega arith
le-div R56 x y h = omega arith
le-div R78 x y h = omega arith

div-same : (rate : Rate) (x y : ℕ) → rate_steps rate * x ≡ y → y / rate_steps rate ≡ x
div-same R12 x y h = omega arith
div-same R23 x y h = omega arith
div-same R34 x y h = omega arith
div-same R56 x y h = omega arith
div-same R78 x y h = omega arith

pub whole-patterns : (rate : Rate) (a : ℕ) → a % rate_steps rate ≡ 0 → rate_steps rate * (a / rate_steps rate) ≡ a
whole-patterns R12 a h = omega arith
whole-patterns R23 a h = omega arith
whole-patterns R34 a h = omega arith
whole-patterns R56 a h = omega arith
whole-patterns R78 a h = omega arith

pub whole-sum : (rate : Rate) (a b : ℕ) → a % rate_steps rate ≡ 0 → b % rate_steps rate ≡ 0 → (a + b) % rate_steps rate ≡ 0
whole-sum R12 a b h k = omega arith
whole-sum R23 a b h k = omega arith
whole-sum R34 a b h k = omega arith
whole-sum R56 a b h k = omega arith
whole-sum R78 a b h k = omega arith

-- unit m is within so many units
pub unit-within : (size len m : ℕ) → 1 ≤ size → m < len / size → size * m + size ≤ len
unit-within size len m h k =
    let next : m + 1 ≤ len / size = omega arith in
    let b : size * (m + 1) ≤ size * (len / size) = mul-le-mul_left size next in
    omega (arith, b)

-- the patterns of the units up to m are within all patterns
pub patterns-within : (rate : Rate) (size patterns len m : ℕ) → 8 * size ≡ rate_steps rate * patterns → 1 ≤ size → m < len / size → patterns * m + patterns ≤ 8 * len / rate_steps rate
patterns-within rate size patterns len m e h k =
    let part : 8 * size * m ≡ rate_steps rate * patterns * m = ap (λ x. x * m) e in
    let within = unit-within size len m h k in
    le-div rate (patterns * m + patterns) (8 * len) (omega (arith, part, e, within))

-- all units have all patterns
pub patterns-all : (rate : Rate) (size patterns len : ℕ) → 8 * size ≡ rate_steps rate * patterns → 1 ≤ size → len % size ≡ 0 → 8 * len / rate_steps rate ≡ patterns * (len / size)
patterns-all rate size patterns len e h k =
    let q = len / size in
    let part : 8 * size * q ≡ rate_steps rate * patterns * q = ap (λ x. x * q) e in
    let whole : size * q ≡ len = omega arith in
    div-same rate (patterns * q) (8 * len) (omega (arith, part, whole))

-- ---- bits

bit_of-place : (stream : ℕ → ℕ) (a k : ℕ) → bit_of stream (8 * a + k) ≡ word_bit (stream (a + k / 8)) (7 - k % 8)
bit_of-place stream a k =
    let q : (8 * a + k) / 8 ≡ a + k / 8 = omega arith in
    let r : (8 * a + k) % 8 ≡ k % 8 = omega arith in
    ap (λ m. word_bit (stream m) (7 - (8 * a + k) % 8)) q ∙ ap (λ m. word_bit (stream (a + k / 8)) (7 - m)) r

-- a piece has its bytes
pub length-piece : (bytes : List ℕ) (start size n : ℕ) → n ≡ size → start + size ≤ length bytes → length (take n (drop start bytes)) ≡ size
length-piece bytes start size n e within = omega (arith, length-take n (drop start bytes), length-drop start bytes)

-- the bits of a piece of the bytes are those of a stream that begins with what was fed and the bytes
pub piece-bits : (fed bytes : List ℕ) (stream : ℕ → ℕ) (start size n : ℕ) → n ≡ size → BeginsWith stream (fed ++ bytes) → start + size ≤ length bytes → (k : ℕ) → k < 8 * size → bits_of (take n (drop start bytes)) k ≡ bit_of stream (8 * (length fed + start) + k)
piece-bits fed bytes stream start size n e begins within k h =
    let q = k / 8 in
    let size_of = length-append fed bytes in
    let place : length fed + start + q ≡ length fed + (start + q) = omega arith in
    ap (λ b. word_bit b (7 - k % 8))
    (get_or-take n (drop start bytes) q 0 (omega arith)
    ∙ get_or-drop start bytes q 0
    ∙ sym (get_or-append-add fed bytes (start + q) 0)
    ∙ sym (begins (length fed + (start + q)) (omega (arith, size_of)))
    ∙ ap stream (sym place))
    ∙ sym (bit_of-place stream (length fed + start) k)

-- the newest inputs of what was fed are those of a stream that begins with it
pub newest-fed : (fed bytes : List ℕ) (stream : ℕ → ℕ) (word count : ℕ) → BeginsWith stream (fed ++ bytes) → AreNewest word count (bits_of fed) (8 * length fed) → AreNewest word count (bit_of stream) (8 * length fed)
newest-fed fed bytes stream word count begins newest d h =
    let i = 8 * length fed in
    newest d h
    ∙ elim (cases_lt i (d + 1)) [
      | inl none ↦ earlier_bit-none (bits_of fed) i (d + 1) none ∙ sym (earlier_bit-none (bit_of stream) i (d + 1) none)
      | inr some ↦ (let j = i - (d + 1) in
          let size_of = length-append fed bytes in
          let byte : get_or fed (j / 8) 0 ≡ stream (j / 8) = sym (get_or_append_left fed bytes 0 (j / 8) (omega arith)) ∙ sym (begins (j / 8) (omega (arith, size_of))) in
          earlier_bit-here (bits_of fed) i (d + 1) some ∙ ap (λ b. word_bit b (7 - j % 8)) byte ∙ sym (earlier_bit-here (bit_of stream) i (d + 1) some))
    ]

-- the six newest inputs are kept alone
pub newest-six : (word : ℕ) (u : ℕ → Bool) (i : ℕ) → AreNewest word 6 u i → AreNewest (bit_and word 63) 6 u i
newest-six word u i newest d h = ap (λ w. word_bit w d) (and_mask word 6) ∙ word_bit-mod word 6 d h ∙ newest d h

pub newest-six-lt : (word : ℕ) → bit_and word 63 < 64
newest-six-lt word = let k = and_le_r word 63 in omega (arith, k)
