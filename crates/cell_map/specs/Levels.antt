-- Carrier modulation (ARIB STD-B31 chapter 3: mapping of QPSK, 16QAM and 64QAM), without the normalising factor.
use Rattle.std.specs.Prelude.{ℕ, ◌+◌, ◌*◌, ◌==◌, ℤ, pos, negsuc, ◌-ℤ◌, nat_abs, ◌≤ℤ◌, ◌≡◌, ◌<◌, ◌⊎◌, nat_lt, List, [], ◌∷◌, if◌then◌else◌}
use Rattle.std.specs.Int.{bit_at}
use Rattle.isdbt_base.specs.declared.kinds.Modulation.{Modulation}
use Rattle.isdbt_base.specs.declared.kinds.Modulation.TheVariants.{Qpsk, Qam16, Qam64}
use Rattle.cell_map.specs.declared.cell.Cell.{Cell}

-- a level of an axis, and the axis bits for which it stands
pub record Level : Type 0 where
  pub level : ℤ
  pub bits : ℕ

abbrev pub at_level : ℤ → ℕ → Level
at_level x b = record { level = x; bits = b }

-- the highest level of a modulation
abbrev pub highest : Modulation → Level
highest Qpsk = at_level (pos 1) 0b0
highest Qam16 = at_level (pos 3) 0b00
highest Qam64 = at_level (pos 7) 0b000

-- the other levels, from high to low
abbrev pub lower : Modulation → List Level
lower Qpsk = at_level (negsuc 0) 0b1 ∷ []
lower Qam16 = at_level (pos 1) 0b01 ∷ at_level (negsuc 0) 0b11 ∷ at_level (negsuc 2) 0b10 ∷ []
lower Qam64 = at_level (pos 5) 0b001 ∷ at_level (pos 3) 0b011 ∷ at_level (pos 1) 0b010 ∷ at_level (negsuc 0) 0b110 ∷ at_level (negsuc 2) 0b111 ∷ at_level (negsuc 4) 0b101 ∷ at_level (negsuc 6) 0b100 ∷ []

-- the level of axis bits among these, the first one where there is none
unfoldable pub level_in : ℕ → Level → List Level → ℤ
level_in b first [] = first.level
level_in b first (l ∷ ls) = if l.bits == b then l.level else level_in b first ls

-- the level of axis bits
abbrev pub level_of : Modulation → ℕ → ℤ
level_of m b = level_in b (highest m) (lower m)

-- how far a value of an axis is from a level
abbrev pub distance : ℤ → ℤ → ℕ
distance x level = nat_abs (x -ℤ level)

-- the nearest of these levels, going on from one: a later one only where it is strictly nearer
unfoldable pub nearest : ℤ → Level → List Level → Level
nearest x best [] = best
nearest x best (l ∷ ls) = nearest x (if nat_lt (distance x l.level) (distance x best.level) then l else best) ls

-- the axis bits of the nearest level, a tie going to the higher
abbrev pub axis_bits_of : Modulation → ℤ → ℕ
axis_bits_of m x = (nearest x (highest m) (lower m)).bits

-- the first of two levels is nearer to a value of an axis, or as near and no lower
abbrev pub IsTakenBefore : ℤ → ℤ → ℤ → Type 0
IsTakenBefore x level other = (distance x level < distance x other) ⊎ ((distance x level ≡ distance x other) × (other ≤ℤ level))

-- the bits b0 b2 b4 for I and b1 b3 b5 for Q of a cell's bits, b0 the highest
abbrev pub i_bits : ℕ → ℕ
i_bits b = 4 * bit_at b 5 + 2 * bit_at b 3 + bit_at b 1

abbrev pub q_bits : ℕ → ℕ
q_bits b = 4 * bit_at b 4 + 2 * bit_at b 2 + bit_at b 0

-- axis bits with a free place above each
abbrev pub apart : ℕ → ℕ
apart b = 16 * bit_at b 2 + 4 * bit_at b 1 + bit_at b 0

-- the cell's bits from those of its axes
abbrev pub joined_bits : ℕ → ℕ → ℕ
joined_bits i q = 2 * apart i + apart q

-- the cell that is sent for bits
unfoldable pub cell_of : Modulation → ℕ → Cell
cell_of m b = record { i = level_of m (i_bits b); q = level_of m (q_bits b) }

-- the bits of a received cell
unfoldable pub bits_of : Modulation → Cell → ℕ
bits_of m cell = joined_bits (axis_bits_of m cell.i) (axis_bits_of m cell.q)
