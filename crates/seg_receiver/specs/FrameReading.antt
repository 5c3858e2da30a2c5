-- What a buffer holds of what was left of a stream, and the cells of the symbols that it holds.
use Rattle.std.specs.Prelude.{◌≡◌, ℕ, ◌+◌, ◌*◌, ◌≤◌, ◌<◌, List, length, take, drop, min, slice_index, slice_get, Some, Ok, Err}
use Rattle.std.specs.declared.option.Option.{Option}
use Rattle.std.specs.declared.result.Result.{Result}
use Rattle.std.specs.Int.{w8, cast_signed}
use Rattle.isdbt_base.specs.declared.kinds.Mode.{Mode}
use Rattle.isdbt_base.specs.Numbers.{frame_symbols, carriers}
use Rattle.edge_io.specs.declared.shelf.Failed.{Failed}
use Rattle.cell_map.specs.declared.cell.Cell.{Cell}
use Rattle.seg_receiver.specs.CellStream.{FrameCells, stream_cell}

-- ---- cells

-- the cell of two bytes, I and Q in two's complement
abbrev pub cell_at : List ℕ → ℕ → Cell
cell_at bytes at = record { i = cast_signed w8 (slice_index bytes at); q = cast_signed w8 (slice_index bytes (at + 1)) }

-- cells are those of the bytes of a symbol
pub record AreCellsOf (symbol : List ℕ) (cells : List Cell) : Type 0 where
  pub each : (n : ℕ) → n < length cells → slice_get cells n ≡ Some (cell_at symbol (1 + 2 * n))

-- bytes begin with the cells of frame f
pub record ShowsFrame (mode : Mode) (cell : FrameCells) (f : ℕ) (bytes : List ℕ) : Type 0 where
  pub each : (k segment carrier : ℕ) → k < frame_symbols → segment < 13 → carrier < carriers mode → stream_cell mode bytes 0 k segment carrier ≡ cell f k segment carrier

-- ---- reads

-- of the bytes that were left n came to the front of the buffer: as many as it has room for, or all
pub record Came (buffer rest : List ℕ) (left : Option (List ℕ)) (n : ℕ) : Type 0 where
  pub all : n ≡ min (length buffer) (length rest)
  pub front : take n buffer ≡ take n rest
  pub left_is : left ≡ Some (drop n rest)

-- a read failed before the buffer was full
pub record Stopped (buffer rest : List ℕ) (left : Option (List ℕ)) : Type 0 where
  pub taken : ℕ
  pub below : taken < length buffer
  pub within : taken ≤ length rest
  pub left_is : left ≡ Some (drop taken rest)

-- what a read into a buffer answers
abbrev pub ReadAnswer : List ℕ → List ℕ → Option (List ℕ) → Result ℕ Failed → Type 0
ReadAnswer buffer rest left (Ok n) = Came buffer rest left n
ReadAnswer buffer rest left (Err failed) = Stopped buffer rest left
