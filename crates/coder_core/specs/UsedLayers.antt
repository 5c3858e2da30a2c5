-- The coder of a layer that may be unused.
use Rattle.std.specs.Prelude.{◌≡◌, ℕ, ◌+◌, ◌*◌, ◌<◌, Option, Some, None, List, slice_get, length}
use Rattle.std.specs.Option.{option_map}
use Rattle.isdbt_base.specs.declared.kinds.Mode.{Mode}
use Rattle.isdbt_base.specs.declared.kinds.Layer.{Layer}
use Rattle.isdbt_base.specs.LayerParameters.{LayerParameters}
use Rattle.isdbt_base.specs.Numbers.{layer_cells}
use Rattle.isdbt_base.specs.Frames.{FramePackets}
use Rattle.cell_map.specs.declared.cell.Cell.{Cell}
use Rattle.cell_map.specs.Levels.{cell_of}
use Rattle.layer_chain.specs.CodedLayer.{IsFrame}
use Rattle.layer_chain.specs.LayerCells.{cell_bits_at}
use Rattle.layer_chain.specs.LayerCoder.{mode_of, layer_of, cells_of, packets_of, coded_of}
use Rattle.layer_chain.specs.LayerCoder as layer
use Rattle.layer_chain.specs.declared.layer_coder.LayerCoder.{LayerCoder}
use Rattle.coder_core.specs.SentCells.{epoch_packet, layer_cell_at}

-- a layer that is used has a coder, of its mode and its parameters, and one that is not has none
pub record IsCoderOf (mode : Mode) (l : Option LayerParameters) (s : Option LayerCoder) : Type 0 where
  pub same_layer : option_map layer_of s ≡ l
  pub same_mode : option_map mode_of s ≡ option_map (λ _. mode) l

-- the coder of a layer, if it is used, is as so many frames of the epoch that begins at a frame leave it
abbrev pub CoderStandsFor : Mode → Option LayerParameters → Option LayerCoder → Layer → FramePackets → ℕ → ℕ → Type 0
CoderStandsFor mode None s x frames start g = Unit {0}
CoderStandsFor mode (Some l) None x frames start g = ⊥
CoderStandsFor mode (Some l) (Some s) x frames start g = layer.StandsFor s (epoch_packet mode l frames start x) g

-- cells of a layer, if it is used, are those of frame g of the epoch that begins at a frame
abbrev pub AreCellsOf : Mode → Option LayerParameters → Layer → FramePackets → ℕ → ℕ → List Cell → Type 0
AreCellsOf mode None x frames start g cells = Unit {0}
AreCellsOf mode (Some l) x frames start g cells = (y w : ℕ) → y < 204 → w < layer_cells mode l
    → slice_get cells (layer_cells mode l * y + w) ≡ Some (layer_cell_at mode l (epoch_packet mode l frames start x) (204 * g + y) w)

-- there is room for the packets and for the cells of a frame
abbrev pub HasPackets : Option LayerCoder → List (List ℕ) → Type 0
HasPackets None packets = Unit {0}
HasPackets (Some s) packets = length packets ≡ packets_of s

abbrev pub HasRoom : Option LayerCoder → List Cell → Type 0
HasRoom None cells = Unit {0}
HasRoom (Some s) cells = length cells ≡ 204 * cells_of s

-- a coder that takes a frame of packets becomes another and gives cells
pub record CodesFrame (s : LayerCoder) (packets : List (List ℕ)) (t : LayerCoder) (cells : List Cell) : Type 0 where
  pub given : (packet : ℕ → List ℕ) (frame : ℕ) → layer.StandsFor s packet frame → IsFrame (packets_of s) packet frame packets
      → (y w : ℕ) → y < 204 → w < cells_of s
      → slice_get cells (cells_of s * y + w) ≡ Some (cell_of (layer_of s).modulation (cell_bits_at (mode_of s) (layer_of s) (coded_of s packet) (204 * frame + y) w))
  pub state : (packet : ℕ → List ℕ) (frame : ℕ) → layer.StandsFor s packet frame → IsFrame (packets_of s) packet frame packets
      → layer.StandsFor t packet (frame + 1)
  pub same_mode : mode_of t ≡ mode_of s
  pub same_layer : layer_of t ≡ layer_of s

-- so does one that may be absent
abbrev pub CodesIfUsed : Option LayerCoder → List (List ℕ) → Option LayerCoder → List Cell → Type 0
CodesIfUsed None packets None cells = Unit {0}
CodesIfUsed None packets (Some t) cells = ⊥
CodesIfUsed (Some s) packets None cells = ⊥
CodesIfUsed (Some s) packets (Some t) cells = CodesFrame s packets t cells
