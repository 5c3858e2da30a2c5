-- The pseudo-random sequence of energy dispersal (ARIB STD-B31 chapter 3: x^15 + x^14 + 1, initial value 100101010000000).
use Rattle.std.specs.Prelude.{ℕ, zero, suc, ◌+◌, ◌-◌, ◌*◌, Bool, true, false, not, cond, List, [], ◌∷◌, take, slice_index_or, nat_le, if◌then◌else◌}
use Rattle.std.specs.Int.{from_bool}

-- the sum of two bits modulo 2
abbrev pub bit_sum : Bool → Bool → Bool
bit_sum a b = cond a (not b) b

-- the initial value: bits -1 to -15
abbrev pub initial_bits : List Bool
initial_bits = true ∷ false ∷ false ∷ true ∷ false ∷ true ∷ false ∷ true ∷ false ∷ false ∷ false ∷ false ∷ false ∷ false ∷ false ∷ []

-- the fifteen bits before bit n, the newest first
unfoldable pub before_bit : ℕ → List Bool
before_bit zero = initial_bits
before_bit (suc n) = bit_sum (slice_index_or (before_bit n) 13 false) (slice_index_or (before_bit n) 14 false) ∷ take 14 (before_bit n)

-- bit n: the sum of the bits 14 and 15 places before
unfoldable pub sequence_bit : ℕ → Bool
sequence_bit n = slice_index_or (before_bit (suc n)) 0 false

-- the bit d places before bit n, which is one of the initial value where d is above n
abbrev pub earlier_bit : ℕ → ℕ → Bool
earlier_bit n d = if nat_le d n then sequence_bit (n - d) else slice_index_or initial_bits (d - 1 - n) false

-- eight bits as a byte, the first highest
abbrev pub byte_of_bits : (ℕ → Bool) → ℕ
byte_of_bits b = 128 * from_bool (b 0) + 64 * from_bool (b 1) + 32 * from_bool (b 2) + 16 * from_bool (b 3) + 8 * from_bool (b 4) + 4 * from_bool (b 5) + 2 * from_bool (b 6) + from_bool (b 7)

-- byte b of the sequence
unfoldable pub sequence_byte : ℕ → ℕ
sequence_byte b = byte_of_bits (λ i. sequence_bit (8 * b + i))
