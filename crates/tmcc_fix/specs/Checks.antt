-- The checks of the cyclic code of length 273, of which the words from B20 on are the first 184 places.
use Rattle.std.specs.Prelude.{ℕ, ◌+◌, ◌-◌, ◌%◌, Bool, false, List, sum_by, slice_index_or, slice_index}
use Rattle.std.specs.Int.{from_bool}
use Rattle.tmcc_fix.specs.declared.checks.TheConstants.{RESIDUES}

-- the bit of a place, 0 behind the last
abbrev pub bit : List Bool → ℕ → ℕ
bit bits place = from_bool (slice_index_or bits place false)

-- the place that a check with a shift has at a residue
abbrev pub place_of : ℕ → ℕ → ℕ
place_of shift residue = (shift + 273 - residue) % 273

-- how many ones a check covers, modulo 2
abbrev pub parity_at : List Bool → ℕ → ℕ
parity_at bits shift = sum_by (λ residue. bit bits (place_of shift residue)) RESIDUES % 2

-- how many of the checks that cover a place are odd
abbrev pub odd_at : List ℕ → ℕ → ℕ
odd_at parities place = sum_by (λ residue. slice_index parities ((place + residue) % 273)) RESIDUES
