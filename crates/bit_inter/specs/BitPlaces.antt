-- Bit interleaving (ARIB STD-B31 chapter 3: delays of up to 120 cells before the mapping).
use Rattle.std.specs.Prelude.{ℕ, ◌+◌, ◌-◌, ◌*◌, ◌/◌, ◌%◌, Bool, false, if◌then◌else◌, nat_le}

-- by how many cells bit r of a cell of v bits is delayed
abbrev pub bit_delay : ℕ → ℕ → ℕ
bit_delay v r = 120 * r / (v - 1)

-- the layer cell of coded bit c, of a layer with so many cells a symbol: with the adjustment, both ends take two symbols
abbrev pub cell_of_bit : ℕ → ℕ → ℕ → ℕ
cell_of_bit v cells c = c / v + (2 * cells - 120) + bit_delay v (c % v)

-- where coded bit c goes: it is bit c mod v of its layer cell
abbrev pub bit_place : ℕ → ℕ → ℕ → ℕ
bit_place v cells c = v * cell_of_bit v cells c + c % v

-- the bit adjustment of a layer with so many cells a symbol, in bits
abbrev pub bit_adjustment : ℕ → ℕ → ℕ
bit_adjustment v cells = v * (2 * cells - 120)

-- by how many bits those of a path are put off
abbrev pub bit_shift : ℕ → ℕ → ℕ → ℕ
bit_shift v cells path = v * (2 * cells - 120 + bit_delay v (path % v))

-- the bit at place q, bit q mod v of layer cell q / v, and false where no bit goes
unfoldable pub interleaved_bits : (ℕ → Bool) → ℕ → ℕ → ℕ → Bool
interleaved_bits coded v cells q = if nat_le (bit_shift v cells q) q then coded (q - bit_shift v cells q) else false
