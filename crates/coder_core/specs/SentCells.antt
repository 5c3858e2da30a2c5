-- The cells that are sent of frames of packets (ARIB STD-B31 chapter 3), in this project's own layout of the cell stream: for each frame 204 symbols, each of a byte whose lowest bit is the TMCC bit and of 13 segments of cells, by segment and then by carrier, each of two bytes.
use Rattle.std.specs.Prelude.{◌≡◌, ℕ, ◌<◌, ◌≤◌, ◌+◌, ◌-◌, ◌*◌, ◌/◌, ◌%◌, Bool, false, ◌==◌, Option, Some, None, List, [], ◌∷◌, ◌++◌, pos, flat_map, slice_index_or, if◌then◌else◌, nat_lt}
use Rattle.std.specs.List.{range_with_len}
use Rattle.std.specs.Int.{w8, cast_unsigned, from_bool}
use Rattle.isdbt_base.specs.declared.kinds.Mode.{Mode}
use Rattle.isdbt_base.specs.declared.kinds.Layer.{Layer}
use Rattle.isdbt_base.specs.declared.kinds.Layer.TheVariants.{A, B, C}
use Rattle.isdbt_base.specs.LayerParameters.{LayerParameters}
use Rattle.isdbt_base.specs.Parameters.{Parameters, layer_of}
use Rattle.isdbt_base.specs.Numbers.{frame_symbols, carriers, packets_per_frame, first_segment}
use Rattle.isdbt_base.specs.Plans.{Schedule, at_frame}
use Rattle.isdbt_base.specs.Frames.{FramePackets}
use Rattle.isdbt_base.specs.declared.stream.Writing.{Writing}
use Rattle.isdbt_base.specs.Heads.{head_bytes}
use Rattle.cell_map.specs.declared.cell.Cell.{Cell}
use Rattle.cell_map.specs.Levels.{cell_of}
use Rattle.tmcc_word.specs.Fields.{TmccFields}
use Rattle.tmcc_word.specs.Words.{word_of}
use Rattle.layer_chain.specs.CodedBits.{layer_coded_bit}
use Rattle.layer_chain.specs.LayerCells.{cell_bits_at}

-- packet m of a layer in the epoch that begins at a frame
abbrev pub epoch_packet : Mode → LayerParameters → FramePackets → ℕ → Layer → ℕ → List ℕ
epoch_packet mode l frames start x m = frames (start + m / packets_per_frame mode l) x (m % packets_per_frame mode l)

-- the cell of a layer at place w of an epoch symbol
unfoldable pub layer_cell_at : Mode → LayerParameters → (ℕ → List ℕ) → ℕ → ℕ → Cell
layer_cell_at mode l packet y w = cell_of l.modulation (cell_bits_at mode l (layer_coded_bit mode l packet) y w)

-- the layer that has a segment
abbrev pub segment_layer : Parameters → ℕ → Layer
segment_layer s segment = if nat_lt segment (first_segment s B) then A else if nat_lt segment (first_segment s C) then B else C

-- the cell of a layer at a segment and carrier of symbol y of an epoch, where the layer is used
abbrev pub cell_in : Mode → Parameters → FramePackets → ℕ → ℕ → ℕ → ℕ → Layer → Option LayerParameters → Cell
cell_in mode s frames start y segment carrier x None = record { i = pos 0; q = pos 0 }
cell_in mode s frames start y segment carrier x (Some l) = layer_cell_at mode l (epoch_packet mode l frames start x) y ((segment - first_segment s x) * carriers mode + carrier)

-- the cell at a segment and carrier of symbol y of an epoch: that of the layer that has the segment
abbrev pub epoch_cell : Mode → Parameters → FramePackets → ℕ → ℕ → ℕ → ℕ → Cell
epoch_cell mode s frames start y segment carrier = cell_in mode s frames start y segment carrier (segment_layer s segment) (layer_of s (segment_layer s segment))

-- the two bytes of a cell, I and Q in two's complement
abbrev pub cell_bytes : Cell → List ℕ
cell_bytes c = cast_unsigned w8 c.i ∷ cast_unsigned w8 c.q ∷ []

-- a symbol: its TMCC bit and its cells
unfoldable pub symbol_bytes : Mode → Bool → (ℕ → ℕ → Cell) → List ℕ
symbol_bytes mode tmcc cell = from_bool tmcc ∷ flat_map (λ n. cell_bytes (cell (n / carriers mode) (n % carriers mode))) (range_with_len 0 (13 * carriers mode))

-- frame g of the epoch that begins at a frame, with the bits of a TMCC word
unfoldable pub epoch_frame_cells : Mode → Parameters → FramePackets → ℕ → ℕ → List Bool → List ℕ
epoch_frame_cells mode s frames start g word = flat_map (λ k. symbol_bytes mode (slice_index_or word k false) (epoch_cell mode s frames start (frame_symbols * g + k))) (range_with_len 0 frame_symbols)

-- what the TMCC word of a frame of a plan says
abbrev pub plan_info : Schedule → ℕ → TmccFields
plan_info p f = record { start_up = false; countdown = (at_frame p f).countdown; now = (at_frame p f).setting; next = (at_frame p f).next }

-- the TMCC word of a frame of a plan
abbrev pub plan_word : Schedule → ℕ → List Bool
plan_word p f = word_of (plan_info p f) (f % 2 == 1)

-- the cells of frame f of a plan
unfoldable pub frame_cells : Schedule → FramePackets → ℕ → List ℕ
frame_cells p frames f = epoch_frame_cells (at_frame p f).mode (at_frame p f).setting frames (at_frame p f).start (f - (at_frame p f).start) (plan_word p f)

-- ---- the versions of the stream

-- what stands before the symbols of frame f: in version 2 a head that says its mode and guard interval, in version 1 nothing
abbrev pub sent_head : Writing → Schedule → ℕ → List ℕ
sent_head how p f = if how.v2 then head_bytes (at_frame p f).mode (at_frame p f).guard else []

-- the bytes that are sent of frame f of a plan: its head and its cells
unfoldable pub sent_frame : Writing → Schedule → FramePackets → ℕ → List ℕ
sent_frame how p frames f = sent_head how p f ++ frame_cells p frames f

-- the packets of two streams are alike in each frame of a plan up to f, where the layers have them
abbrev pub AgreeUpTo : Schedule → ℕ → FramePackets → FramePackets → Type 0
AgreeUpTo p f frames other = (g j : ℕ) (x : Layer) (l : LayerParameters) → g ≤ f → layer_of (at_frame p g).setting x ≡ Some l → j < packets_per_frame (at_frame p g).mode l
    → frames g x j ≡ other g x j

-- bytes of a frame of cells
abbrev pub frame_size : Mode → ℕ
frame_size mode = frame_symbols * (1 + 26 * carriers mode)
