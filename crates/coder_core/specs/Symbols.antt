-- The bytes of a symbol from its layers' cells.
use Rattle.std.specs.Prelude.{ℕ, Bool, false, List, ◌∷◌, ◌++◌, flat_map, slice_index_or}
use Rattle.std.specs.List.{range_with_len}
use Rattle.std.specs.Int.{from_bool}
use Rattle.cell_map.specs.declared.cell.Cell.{Cell}
use Rattle.coder_core.specs.SentCells.{cell_bytes}

-- the bytes of cells
unfoldable pub cells_bytes : List Cell → List ℕ
cells_bytes cells = flat_map cell_bytes cells

-- the TMCC bit, and then the cells of layers A, B and C
unfoldable pub layers_symbol : Bool → List Cell → List Cell → List Cell → List ℕ
layers_symbol tmcc a b c = from_bool tmcc ∷ (cells_bytes a ++ (cells_bytes b ++ cells_bytes c))

-- the first n symbols, from the bits and from the cells of each layer by symbol
unfoldable pub first_symbols : List Bool → (ℕ → List Cell) → (ℕ → List Cell) → (ℕ → List Cell) → ℕ → List ℕ
first_symbols word a b c n = flat_map (λ k. layers_symbol (slice_index_or word k false) (a k) (b k) (c k)) (range_with_len 0 n)
