-- What the receiver of layer A alone keeps of the symbols of segment 0 that it has seen.
use Rattle.std.specs.Prelude.{◌≡◌, ℕ, ◌<◌, min, Some, List, slice_get}
use Rattle.isdbt_base.specs.declared.kinds.Mode.{Mode}
use Rattle.isdbt_base.specs.LayerParameters.{LayerParameters}
use Rattle.isdbt_base.specs.Numbers.{carriers, layer_delay}
use Rattle.cell_map.specs.declared.cell.Cell.{Cell}
use Rattle.layer_chain.specs.LayerDecoder as layer
use Rattle.seg_receiver.specs.Received.{segment_bits}
use Rattle.seg_receiver.specs.declared.partial_receiver.PartialReceiver.{PartialReceiver}

-- the mode of the epoch, and the layer that is received
abbrev pub mode_of : PartialReceiver → Mode
mode_of r = layer.mode_of r.decoder

abbrev pub layer_of : PartialReceiver → LayerParameters
layer_of r = layer.layer_of r.decoder

-- packets of the layer in a frame
abbrev pub packets_of : PartialReceiver → ℕ
packets_of r = layer.packets_of r.decoder

-- the symbols since the last frame was given out
abbrev pub symbols_of : PartialReceiver → ℕ
symbols_of r = layer.symbols_of r.decoder

-- cells are those of segment 0 in symbol k of frame f
pub record AreSegmentCells (mode : Mode) (cell : ℕ → ℕ → ℕ → Cell) (f k : ℕ) (received : List Cell) : Type 0 where
  pub each : (carrier : ℕ) → carrier < carriers mode → slice_get received carrier ≡ Some (cell f k carrier)

-- it is as it is after the first h frames of the epoch that begins at a frame, and the symbols of the next that were seen
pub record StandsFor (r : PartialReceiver) (cell : ℕ → ℕ → ℕ → Cell) (start h : ℕ) : Type 0 where
  pub decoder : layer.StandsFor r.decoder (segment_bits (mode_of r) (layer_of r) cell start) h
  pub counted : r.frames ≡ min h (layer_delay (mode_of r) (layer_of r))
