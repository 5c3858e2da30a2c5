-- Polynomials by their coefficients, and the recurrences of a sequence of terms.
use Rattle.std.specs.Prelude.{◌≡◌, ℕ, zero, suc, ◌+◌, ◌*◌, ◌/◌, ◌%◌, ◌^◌, ◌<◌, ◌≤◌, bit_xor}
use Rattle.gf_rs.specs.Field.{gf_mul}

-- the sum of the coefficients c 0 to c d times the terms s (d + i) down to s i
unfoldable pub along : (ℕ → ℕ) → (ℕ → ℕ) → ℕ → ℕ → ℕ
along c s zero i = gf_mul (c 0) (s i)
along c s (suc d) i = bit_xor (along c s d (suc i)) (gf_mul (c (suc d)) (s i))

-- the value at x of the polynomial with the coefficients c 0 to c d, the first at the highest power
unfoldable pub value_to : (ℕ → ℕ) → ℕ → ℕ → ℕ
value_to c zero x = c 0
value_to c (suc d) x = bit_xor (gf_mul (value_to c d x) x) (c (suc d))

-- byte k of a number, the lowest being byte 0
abbrev pub byte_of : ℕ → ℕ → ℕ
byte_of n k = n / 2 ^ (8 * k) % 2 ^ 8

-- coefficients moved up by one
abbrev pub moved : (ℕ → ℕ) → ℕ → ℕ
moved b zero = 0
moved b (suc j) = b j

-- The search of Berlekamp and Massey after n terms: c of degree l is a recurrence of the terms from l on; b, of degree n - l, is one up to its last term, where it gives 1.
pub record IsBerlekampMassey (n l : ℕ) (c b s : ℕ → ℕ) : Type 0 where
  pub within : l ≤ n
  pub first : c 0 ≡ 1
  pub short : (j : ℕ) → l < j → c j ≡ 0
  pub fits : (k : ℕ) → l ≤ k → k < n → along c s k 0 ≡ 0
  pub other_short : (j : ℕ) → n < j + l → b j ≡ 0
  pub other_fits : (k : ℕ) → n ≤ k + l → suc k < n → along b s k 0 ≡ 0
  pub other_misses : (k : ℕ) → suc k ≡ n → 0 < l → along b s k 0 ≡ 1

-- the quotient by x - a: its coefficients are the values at a so far
abbrev pub quotient : (ℕ → ℕ) → ℕ → ℕ → ℕ
quotient c a j = value_to c j a

-- e times the value at a of the quotient is the sum of the quotient's coefficients times the terms, where that value is not 0
abbrev pub IsErrorValue : (ℕ → ℕ) → (ℕ → ℕ) → ℕ → ℕ → ℕ → Type 0
IsErrorValue c s d a e = (value_to (quotient c a) d a ≡ 0 → ⊥) → gf_mul (value_to (quotient c a) d a) e ≡ along (quotient c a) s d 0
