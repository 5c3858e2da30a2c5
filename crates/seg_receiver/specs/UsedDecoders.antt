-- The decoder of a layer that may be unused.
use Rattle.std.specs.Prelude.{◌≡◌, ℕ, ◌+◌, ◌*◌, ◌/◌, ◌%◌, ◌<◌, Option, Some, None, List, length, slice_get}
use Rattle.std.specs.Option.{option_map}
use Rattle.isdbt_base.specs.declared.kinds.Mode.{Mode}
use Rattle.isdbt_base.specs.LayerParameters.{LayerParameters}
use Rattle.isdbt_base.specs.Numbers.{carriers, packets_per_frame}
use Rattle.ts_packet.specs.Packets.{piece_or_null}
use Rattle.cell_map.specs.declared.cell.Cell.{Cell}
use Rattle.layer_chain.specs.OuterWords.{given_out}
use Rattle.layer_chain.specs.SymbolReader.{IsSymbol}
use Rattle.layer_chain.specs.LayerDecoder.{mode_of, layer_of, cells_of, packets_of, symbols_of}
use Rattle.layer_chain.specs.LayerDecoder as layer
use Rattle.layer_chain.specs.declared.layer_decoder.LayerDecoder.{LayerDecoder}
use Rattle.seg_receiver.specs.CellStream.{FrameCells}
use Rattle.seg_receiver.specs.Received.{place_bits}

-- a layer that is used has a decoder, of its mode and its parameters, that has seen so many symbols of the frame, and one that is not has none
pub record IsDecoderOf (mode : Mode) (l : Option LayerParameters) (symbols : ℕ) (s : Option LayerDecoder) : Type 0 where
  pub same_layer : option_map layer_of s ≡ l
  pub same_mode : option_map mode_of s ≡ option_map (λ _. mode) l
  pub same_symbols : option_map symbols_of s ≡ option_map (λ _. symbols) l

-- the decoder of a layer, if it is used, is as it is after the first h frames of the epoch that begins at a frame, and the symbols of the next that were seen; the layer's cells begin at a segment
abbrev pub DecoderStandsFor : Mode → Option LayerParameters → Option LayerDecoder → FrameCells → ℕ → ℕ → ℕ → Type 0
DecoderStandsFor mode None s cell start first h = Unit {0}
DecoderStandsFor mode (Some l) None cell start first h = ⊥
DecoderStandsFor mode (Some l) (Some s) cell start first h = layer.StandsFor s (place_bits mode l cell start first) h

-- cells are those of symbol k of frame f from a segment on
pub record AreCellsFrom (mode : Mode) (cell : FrameCells) (first f k : ℕ) (received : List Cell) : Type 0 where
  pub each : (w : ℕ) → w < length received → slice_get received w ≡ Some (cell f k (first + w / carriers mode) (w % carriers mode))

-- bytes are the packets of a layer, if it is used, that are given out with frame h of the epoch that begins at a frame
abbrev pub ArePacketsOf : Mode → Option LayerParameters → FrameCells → ℕ → ℕ → ℕ → List ℕ → Type 0
ArePacketsOf mode None cell start first h bytes = Unit {0}
ArePacketsOf mode (Some l) cell start first h bytes = (j : ℕ) → j < packets_per_frame mode l → piece_or_null bytes j ≡ given_out mode l (place_bits mode l cell start first) h j

-- the cells are as many as the layer has in a symbol, and the frame has a symbol more
abbrev pub HasCells : Option LayerDecoder → List Cell → Type 0
HasCells None cells = Unit {0}
HasCells (Some s) cells = length cells ≡ cells_of s

abbrev pub HasSymbolLeft : Option LayerDecoder → Type 0
HasSymbolLeft None = Unit {0}
HasSymbolLeft (Some s) = symbols_of s < 204

-- there is room for the packets of a frame, whose symbols have all been seen
abbrev pub HasRoom : Option LayerDecoder → List ℕ → Type 0
HasRoom None bytes = Unit {0}
HasRoom (Some s) bytes = length bytes ≡ 188 * packets_of s

abbrev pub HasFrame : Option LayerDecoder → Type 0
HasFrame None = Unit {0}
HasFrame (Some s) = symbols_of s ≡ 204

-- a decoder that takes the cells of a symbol becomes another
pub record TakesSymbol (s : LayerDecoder) (cells : List Cell) (t : LayerDecoder) : Type 0 where
  pub state : (cell : ℕ → ℕ → ℕ) (frames : ℕ) → layer.StandsFor s cell frames → IsSymbol (layer_of s).modulation cell (204 * frames + symbols_of s) cells
      → layer.StandsFor t cell frames
  pub symbols : symbols_of t ≡ symbols_of s + 1
  pub same_mode : mode_of t ≡ mode_of s
  pub same_layer : layer_of t ≡ layer_of s

-- so does one that may be absent
abbrev pub TakesIfUsed : Option LayerDecoder → List Cell → Option LayerDecoder → Type 0
TakesIfUsed None cells None = Unit {0}
TakesIfUsed None cells (Some t) = ⊥
TakesIfUsed (Some s) cells None = ⊥
TakesIfUsed (Some s) cells (Some t) = TakesSymbol s cells t

-- a decoder that gives out a frame of packets becomes another
pub record GivesFrame (s t : LayerDecoder) (bytes : List ℕ) : Type 0 where
  pub given : (cell : ℕ → ℕ → ℕ) (frames : ℕ) → layer.StandsFor s cell frames → (j : ℕ) → j < packets_of s
      → piece_or_null bytes j ≡ given_out (mode_of s) (layer_of s) cell frames j
  pub state : (cell : ℕ → ℕ → ℕ) (frames : ℕ) → layer.StandsFor s cell frames → layer.StandsFor t cell (frames + 1)
  pub symbols : symbols_of t ≡ 0
  pub same_mode : mode_of t ≡ mode_of s
  pub same_layer : layer_of t ≡ layer_of s

-- so does one that may be absent
abbrev pub GivesIfUsed : Option LayerDecoder → Option LayerDecoder → List ℕ → Type 0
GivesIfUsed None None bytes = Unit {0}
GivesIfUsed None (Some t) bytes = ⊥
GivesIfUsed (Some s) None bytes = ⊥
GivesIfUsed (Some s) (Some t) bytes = GivesFrame s t bytes
