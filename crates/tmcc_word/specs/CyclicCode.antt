-- The shortened (184,102) difference-set cyclic code (ARIB STD-B31 chapter 3). A polynomial over two elements is the number
-- whose bit i is the coefficient of x^i, or the list of its coefficients, the highest first.
use Rattle.std.specs.Prelude.{◌≡◌, ℕ, zero, suc, ◌+◌, ◌*◌, ◌^◌, Bool, if◌then◌else◌, ◌==◌, List, [], ◌∷◌, length, bit_xor}
use Rattle.std.specs.Int.{bit_at}
use Rattle.isdbt_base.specs.Bits.{number_bits, bits_number, ◌⊕◌}

-- the generator x^82 + x^77 + x^76 + x^71 + x^67 + x^66 + x^56 + x^52 + x^48 + x^40 + x^36 + x^34 + x^24 + x^22 + x^18 + x^10 + x^4 + 1
abbrev pub generator : ℕ
generator = 2 ^ 82 + 2 ^ 77 + 2 ^ 76 + 2 ^ 71 + 2 ^ 67 + 2 ^ 66 + 2 ^ 56 + 2 ^ 52 + 2 ^ 48 + 2 ^ 40 + 2 ^ 36 + 2 ^ 34 + 2 ^ 24 + 2 ^ 22 + 2 ^ 18 + 2 ^ 10 + 2 ^ 4 + 1

-- the product of the generator and a polynomial: the sum of the generator's shifts to the positions of its ones
unfoldable pub generator_times : List Bool → ℕ
generator_times [] = 0
generator_times (q ∷ qs) = bit_xor (if q then generator * 2 ^ length qs else 0) (generator_times qs)

-- 184 bits are a codeword: they are the generator times a polynomial of 102 coefficients
abbrev pub IsCodeword : List Bool → Type 0
IsCodeword bits = (q : List Bool) × (length q ≡ 102) × (generator_times q ≡ bits_number bits)

-- the remainder by the generator of a polynomial of at most 82 + k coefficients
unfoldable pub remainder : ℕ → ℕ → ℕ
remainder zero p = p
remainder (suc k) p = remainder k (if bit_at p (82 + k) == 1 then bit_xor p (generator * 2 ^ k) else p)

-- the parity of 102 bits: the remainder of their polynomial times x^82
unfoldable pub parity_of : List Bool → List Bool
parity_of bits = number_bits 82 (remainder 102 (bits_number bits * 2 ^ 82))

-- the sum of two lists of bits, bit by bit
abbrev pub bit_sum : List Bool → List Bool → List Bool
bit_sum [] ys = []
bit_sum (x ∷ xs) [] = []
bit_sum (x ∷ xs) (y ∷ ys) = (x ⊕ y) ∷ bit_sum xs ys
