-- The outer code: shortened Reed-Solomon codes (ARIB STD-B31 chapter 3: RS(204,188), whose generator has the roots λ^0 to λ^15, λ being 02 hex).
use Rattle.std.specs.Prelude.{◌≡◌, ℕ, zero, suc, ◌+◌, ◌<◌, ◌≤◌, bit_xor, List, [], ◌∷◌, ◌++◌, length, All, replicate, drop, slice_index, map, if◌then◌else◌, ◌==◌}
use Rattle.gf_rs.specs.Field.{gf_mul, gf_pow}

-- the value at x of the polynomial that goes on from a value
unfoldable pub value_from : ℕ → List ℕ → ℕ → ℕ
value_from a [] x = a
value_from a (b ∷ bs) x = value_from (bit_xor (gf_mul a x) b) bs x

-- the value at x of a list as a polynomial, the first byte at the highest power
abbrev pub value_at : List ℕ → ℕ → ℕ
value_at bytes x = value_from 0 bytes x

-- each number of the list is a byte
abbrev pub IsBytes : List ℕ → Type 0
IsBytes bytes = All (λ b. b < 256) bytes

-- a list of bytes is a codeword for so many roots if its polynomial vanishes at λ^0, λ^1 and so on
pub record IsCodeword (roots : ℕ) (word : List ℕ) : Type 0 where
  pub bytes : IsBytes word
  pub vanishes : (i : ℕ) → i < roots → value_at word (gf_pow 2 i) ≡ 0

-- two lists added place by place, as long as the first
unfoldable pub added : List ℕ → List ℕ → List ℕ
added [] ys = []
added (x ∷ xs) [] = x ∷ xs
added (x ∷ xs) (y ∷ ys) = bit_xor x y ∷ added xs ys

-- a list times a number of the field
abbrev pub scaled : ℕ → List ℕ → List ℕ
scaled c xs = map (gf_mul c) xs

-- the generator polynomial: the product of x - λ^i for i below roots, without its leading 1, the highest power first
unfoldable pub generator : ℕ → List ℕ
generator zero = []
generator (suc r) = added (generator r ++ 0 ∷ []) (scaled (gf_pow 2 r) (1 ∷ generator r))

-- the remainder by the generator polynomial of a remainder that bytes follow
unfoldable pub remainder_from : ℕ → List ℕ → List ℕ → List ℕ
remainder_from roots r [] = r
remainder_from roots r (b ∷ bs) = remainder_from roots (added (drop 1 r ++ 0 ∷ []) (scaled (bit_xor b (slice_index r 0)) (generator roots))) bs

-- the parity: the remainder by the generator polynomial of the message with as many zeros behind it as there are roots
unfoldable pub parity_of : ℕ → List ℕ → List ℕ
parity_of roots message = remainder_from roots (replicate roots 0) message

-- the codeword that begins with the message, for 1 root and more
abbrev pub codeword_of : ℕ → List ℕ → List ℕ
codeword_of roots message = message ++ parity_of roots message

-- at how many places two words differ
unfoldable pub differing : List ℕ → List ℕ → ℕ
differing [] ys = 0
differing (x ∷ xs) [] = 0
differing (x ∷ xs) (y ∷ ys) = if x == y then differing xs ys else suc (differing xs ys)

-- near is a codeword as long as the word, and differs from it in at most half as many bytes as there are roots
pub record IsNear (roots : ℕ) (word near : List ℕ) : Type 0 where
  pub codeword : IsCodeword roots near
  pub size : length near ≡ length word
  pub close : differing word near + differing word near ≤ roots
