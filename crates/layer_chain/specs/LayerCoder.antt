-- What the coder of a layer keeps of the packets that it has seen, and the cells that it gives.
use Rattle.std.specs.Prelude.{◌≡◌, ℕ, ◌+◌, ◌*◌, Bool, List, length}
use Rattle.isdbt_base.specs.declared.kinds.Mode.{Mode}
use Rattle.isdbt_base.specs.LayerParameters.{LayerParameters}
use Rattle.isdbt_base.specs.Numbers.{carriers, layer_cells, cell_bits, packets_per_frame, time_depth, time_adjust}
use Rattle.delay_line.specs.Adjusted.{AdjustedStandsFor}
use Rattle.bit_inter.specs.BitPlaces.{interleaved_bits}
use Rattle.time_inter.specs.Layouts.{layer_layout}
use Rattle.time_inter.specs.LayerStage as time
use Rattle.layer_chain.specs.Streams.{first_of}
use Rattle.layer_chain.specs.CodedBits.{layer_coded_bit}
use Rattle.layer_chain.specs.CodedLayer as coded
use Rattle.layer_chain.specs.BitPaths as bit
use Rattle.layer_chain.specs.LayerCells.{cell_number}
use Rattle.layer_chain.specs.declared.layer_coder.LayerCoder.{LayerCoder}

-- the layer that is coded, and its mode
abbrev pub mode_of : LayerCoder → Mode
mode_of s = coded.mode_of s.coded

abbrev pub layer_of : LayerCoder → LayerParameters
layer_of s = coded.layer_of s.coded

-- cells of the layer in a symbol, and packets in a frame
abbrev pub cells_of : LayerCoder → ℕ
cells_of s = layer_cells (mode_of s) (layer_of s)

abbrev pub packets_of : LayerCoder → ℕ
packets_of s = packets_per_frame (mode_of s) (layer_of s)

-- the coded bits of the packets of an epoch
abbrev pub coded_of : LayerCoder → (ℕ → List ℕ) → ℕ → Bool
coded_of s packet = layer_coded_bit (mode_of s) (layer_of s) packet

-- bits v * e to v * e + v - 1 of a stream as a number
abbrev pub number_at : ℕ → (ℕ → Bool) → ℕ → ℕ
number_at v bits e = cell_number v (λ r. bits (v * e + r))

-- the bits of layer cell e as a number, before time interleaving
abbrev pub layer_cell_number : ℕ → ℕ → (ℕ → Bool) → ℕ → ℕ
layer_cell_number v cells coded e = number_at v (interleaved_bits coded v cells) e

-- each part of the coder of a layer is as the first so many frames leave it
pub record PartsStandFor (mode : Mode) (l : LayerParameters) (s : LayerCoder) (packet : ℕ → List ℕ) (frames : ℕ) : Type 0 where
  pub coded_stands : coded.StandsFor s.coded packet frames
  pub bit_lines : length (bit.lines_of s.bits) ≡ cell_bits l.modulation
  pub bits_stand : bit.StandsFor (bit.path_delay (cell_bits l.modulation) (layer_cells mode l)) (bit.lines_of s.bits)
      (first_of (number_at (cell_bits l.modulation) (layer_coded_bit mode l packet)) (204 * layer_cells mode l * frames))
  pub cell_layout : time.layout_of s.cells.stage ≡ layer_layout (time_depth mode l.depth) (carriers mode) l.segments
  pub cells_stand : AdjustedStandsFor (time.layout_of s.cells.stage) (time_adjust mode l.depth * layer_cells mode l) s.cells.line (time.held_of s.cells.stage)
      (first_of (layer_cell_number (cell_bits l.modulation) (layer_cells mode l) (layer_coded_bit mode l packet)) (204 * layer_cells mode l * frames))

abbrev pub StandsFor : LayerCoder → (ℕ → List ℕ) → ℕ → Type 0
StandsFor s packet frames = PartsStandFor (mode_of s) (layer_of s) s packet frames
