-- Bit adjustment and interleaving of a layer on its cells' numbers: a line of numbers for each bit of a cell.
use Rattle.std.specs.Prelude.{◌≡◌, ℕ, ◌+◌, ◌-◌, ◌*◌, ◌<◌, List, [], length, slice_index_or}
use Rattle.delay_line.specs.Lines.{held_after, delayed}
use Rattle.bit_inter.specs.BitPlaces.{bit_delay}
use Rattle.layer_chain.specs.LayerCells.{cell_number, bit_of_number}
use Rattle.layer_chain.specs.declared.bit_paths.BitPaths.{BitPaths}

-- what the line of each bit holds
abbrev pub lines_of : BitPaths → List (List ℕ)
lines_of s = s.lines.items

-- by how many cells bit r of a cell of v bits is late, of a layer with so many cells a symbol
abbrev pub path_delay : ℕ → ℕ → ℕ → ℕ
path_delay v cells r = 2 * cells - 120 + bit_delay v r

-- the line of each bit holds what one of its delay holds after the numbers h
abbrev pub StandsFor : (ℕ → ℕ) → List (List ℕ) → List ℕ → Type 0
StandsFor delay lines h = (r : ℕ) → r < length lines → slice_index_or lines r [] ≡ held_after (delay r) 0 h

-- number e that goes out, of v bits: bit r is that of the number so many before
abbrev pub late_number : ℕ → (ℕ → ℕ) → (ℕ → ℕ) → ℕ → ℕ
late_number v delay numbers e = cell_number v (λ r. bit_of_number v (delayed (delay r) 0 numbers e) r)
