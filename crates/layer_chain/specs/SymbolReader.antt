-- What the reader of a layer's cells keeps of the symbols that it has seen, and the bits that it gives.
use Rattle.std.specs.Prelude.{◌≡◌, ℕ, ◌+◌, ◌*◌, ◌/◌, ◌%◌, ◌<◌, Bool, Some, List, length, slice_get}
use Rattle.std.specs.Option.{option_map}
use Rattle.isdbt_base.specs.declared.kinds.Mode.{Mode}
use Rattle.isdbt_base.specs.declared.kinds.Modulation.{Modulation}
use Rattle.isdbt_base.specs.LayerParameters.{LayerParameters}
use Rattle.isdbt_base.specs.Numbers.{carriers, layer_cells, cell_bits, time_depth, frames_over, frame_symbols}
use Rattle.delay_line.specs.Stages as stages
use Rattle.bit_inter.specs.Layouts.{deinter_layout}
use Rattle.time_inter.specs.Layouts.{layer_deinter_layout}
use Rattle.time_inter.specs.LayerPartner as time
use Rattle.cell_map.specs.declared.cell.Cell.{Cell}
use Rattle.cell_map.specs.Levels.{bits_of}
use Rattle.layer_chain.specs.Streams.{first_of}
use Rattle.layer_chain.specs.BitDeinterleaver as bit
use Rattle.layer_chain.specs.LayerCells.{bit_of_number}
use Rattle.layer_chain.specs.declared.symbol_reader.SymbolReader.{SymbolReader}

-- the layer that is read, and its mode
abbrev pub mode_of : SymbolReader → Mode
mode_of s = s.mode

abbrev pub layer_of : SymbolReader → LayerParameters
layer_of s = s.layer

-- cells of the layer in a symbol
abbrev pub cells_of : SymbolReader → ℕ
cells_of s = layer_cells s.mode s.layer

-- bits of the layer in a symbol
abbrev pub bits_of_symbol : Mode → LayerParameters → ℕ
bits_of_symbol mode l = cell_bits l.modulation * layer_cells mode l

-- by how many symbols the bits of a layer are late over both ends: time interleaving takes whole frames, and bit interleaving two symbols
abbrev pub read_delay : Mode → LayerParameters → ℕ
read_delay mode l = frame_symbols * frames_over mode l.depth + 2

-- the cells of a symbol have the bits of an epoch symbol, by place
pub record IsSymbol (m : Modulation) (cell : ℕ → ℕ → ℕ) (y : ℕ) (received : List Cell) : Type 0 where
  pub each : (w : ℕ) → w < length received → option_map (bits_of m) (slice_get received w) ≡ Some (cell y w)

-- the bits of the received cells as numbers, symbol after symbol
abbrev pub cell_stream : ℕ → (ℕ → ℕ → ℕ) → ℕ → ℕ
cell_stream cells cell q = cell (q / cells) (q % cells)

-- the same behind time deinterleaving
abbrev pub late_stream : Mode → LayerParameters → (ℕ → ℕ → ℕ) → ℕ → ℕ
late_stream mode l cell q = stages.stage_item (layer_deinter_layout (time_depth mode l.depth) (carriers mode) l.segments) (cell_stream (layer_cells mode l) cell) q

-- the bits of numbers, cell after cell
abbrev pub bit_stream : ℕ → (ℕ → ℕ) → ℕ → Bool
bit_stream v numbers q = bit_of_number v (numbers (q / v)) (q % v)

-- each part of the reader of a layer is as the first so many symbols of an epoch leave it
pub record PartsStandFor (mode : Mode) (l : LayerParameters) (s : SymbolReader) (cell : ℕ → ℕ → ℕ) (symbols : ℕ) : Type 0 where
  pub cell_layout : time.layout_of s.cells ≡ layer_deinter_layout (time_depth mode l.depth) (carriers mode) l.segments
  pub cells_stand : stages.StandsFor (time.layout_of s.cells) (time.held_of s.cells) (first_of (cell_stream (layer_cells mode l) cell) (layer_cells mode l * symbols))
  pub bit_layout : bit.layout_of s.bits ≡ deinter_layout (cell_bits l.modulation)
  pub bits_stand : stages.StandsFor (bit.layout_of s.bits) (bit.held_of s.bits) (first_of (bit_stream (cell_bits l.modulation) (late_stream mode l cell)) (bits_of_symbol mode l * symbols))

abbrev pub StandsFor : SymbolReader → (ℕ → ℕ → ℕ) → ℕ → Type 0
StandsFor s cell symbols = PartsStandFor (mode_of s) (layer_of s) s cell symbols
