-- The cells of a symbol by number: segment after segment, and in it carrier after carrier.
use Rattle.std.specs.Prelude.{◌≡◌, ℕ, ◌+◌, ◌*◌, ◌/◌, ◌%◌, ◌<◌, Bool, List, map, pos, slice_index_or}
use Rattle.std.specs.List.{range_with_len}
use Rattle.isdbt_base.specs.declared.kinds.Mode.{Mode}
use Rattle.isdbt_base.specs.Numbers.{carriers}
use Rattle.cell_map.specs.declared.cell.Cell.{Cell}
use Rattle.time_inter.specs.declared.cell_place.CellPlace.{CellPlace}
use Rattle.segment_spread.specs.Places.{spread_place, gathered_place}

-- cells of a symbol
abbrev pub symbol_cells : Mode → ℕ
symbol_cells mode = 13 * carriers mode

-- the number of a place in its symbol, and the place of a number
abbrev pub cell_number : Mode → CellPlace → ℕ
cell_number mode place = place.segment * carriers mode + place.carrier

abbrev pub place_at : Mode → ℕ → CellPlace
place_at mode n = record { segment = n / carriers mode; carrier = n % carriers mode }

-- the number to which cell n goes
unfoldable pub spread_number : Bool → Mode → ℕ → ℕ
spread_number partial mode n = cell_number mode (spread_place partial mode (place_at mode n))

-- the number from which the cell comes that goes to number n
unfoldable pub gathered_number : Bool → Mode → ℕ → ℕ
gathered_number partial mode n = cell_number mode (gathered_place partial mode (place_at mode n))

-- what is read beyond a symbol
abbrev pub no_cell : Cell
no_cell = record { i = pos 0; q = pos 0 }

-- cell k of a symbol
abbrev pub cell_at : List Cell → ℕ → Cell
cell_at cells k = slice_index_or cells k no_cell

-- a symbol whose cells are spread: at each number the cell that goes there
unfoldable pub spread_cells : Bool → Mode → List Cell → List Cell
spread_cells partial mode cells = map (λ n. cell_at cells (gathered_number partial mode n)) (range_with_len 0 (symbol_cells mode))

-- a symbol whose cells are gathered again: at each number the cell that went from there
unfoldable pub gathered_cells : Bool → Mode → List Cell → List Cell
gathered_cells partial mode cells = map (λ n. cell_at cells (spread_number partial mode n)) (range_with_len 0 (symbol_cells mode))

-- the first cells of a symbol are those that go there
abbrev pub AreSpread : Bool → Mode → List Cell → List Cell → ℕ → Type 0
AreSpread partial mode cells out count = (n : ℕ) → n < count → cell_at out n ≡ cell_at cells (gathered_number partial mode n)

-- the first cells of a symbol are put back where they come from
abbrev pub AreGathered : Bool → Mode → List Cell → List Cell → ℕ → Type 0
AreGathered partial mode cells out count = (n : ℕ) → n < count → cell_at out (gathered_number partial mode n) ≡ cell_at cells n
