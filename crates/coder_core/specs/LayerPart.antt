-- What the coder of a layer that may be unused keeps, and the cells that it has of a symbol.
use Rattle.std.specs.Prelude.{ℕ, ◌*◌, List, take, drop}
use Rattle.isdbt_base.specs.declared.kinds.Layer.{Layer}
use Rattle.isdbt_base.specs.Parameters.{number_of}
use Rattle.isdbt_base.specs.Numbers.{packets_per_frame, layer_cells}
use Rattle.isdbt_base.specs.Frames.{FramePackets}
use Rattle.cell_map.specs.declared.cell.Cell.{Cell}
use Rattle.coder_core.specs.UsedLayers.{CoderStandsFor, AreCellsOf}
use Rattle.coder_core.specs.declared.layer_part.LayerPart.{LayerPart}

-- packets in a frame, and cells in a symbol: none where the layer is unused
abbrev pub packets_of : LayerPart → ℕ
packets_of p = number_of (packets_per_frame p.mode) p.layer

abbrev pub cells_of : LayerPart → ℕ
cells_of p = number_of (layer_cells p.mode) p.layer

-- the cells of symbol k of the frame that was coded last
abbrev pub symbol_cells : LayerPart → ℕ → List Cell
symbol_cells p k = take (cells_of p) (drop (cells_of p * k) p.cells.items)

-- it is as so many frames of the epoch that begins at a frame leave it
abbrev pub PartStandsFor : LayerPart → Layer → FramePackets → ℕ → ℕ → Type 0
PartStandsFor p x frames start g = CoderStandsFor p.mode p.layer p.coder x frames start g

-- its cells are those of frame g of that epoch
abbrev pub HasCellsOf : LayerPart → Layer → FramePackets → ℕ → ℕ → Type 0
HasCellsOf p x frames start g = AreCellsOf p.mode p.layer x frames start g p.cells.items
