-- What a receiver gives out for a stream of cells, whatever it is: for each frame whose word is read, the broadcast packets of the word's setting, each layer's packets put off by its delay, with null packets before.
use Rattle.std.specs.Prelude.{ℕ, ◌+◌, ◌-◌, ◌/◌, ◌%◌, Bool, if◌then◌else◌, nat_le, ◌==◌, Option, Some, None, Ok, Err, Result, List, [], flat_map}
use Rattle.std.specs.List.{range_with_len}
use Rattle.isdbt_base.specs.declared.kinds.Mode.{Mode}
use Rattle.isdbt_base.specs.declared.kinds.Guard.{Guard}
use Rattle.isdbt_base.specs.declared.kinds.Layer.{Layer}
use Rattle.isdbt_base.specs.LayerParameters.{LayerParameters}
use Rattle.isdbt_base.specs.Parameters.{Parameters, layer_of}
use Rattle.isdbt_base.specs.Numbers.{frame_symbols, carriers, packets_per_frame, layer_delay, first_segment}
use Rattle.isdbt_base.specs.Frames.{FramePackets}
use Rattle.isdbt_base.specs.Outcome.{product}
use Rattle.ts_packet.specs.Packets.{null_packet}
use Rattle.bts_info.specs.Fields.{Tag}
use Rattle.frame_order.specs.OrderedFrame.{ordered_frame}
use Rattle.cell_map.specs.declared.cell.Cell.{Cell}
use Rattle.cell_map.specs.Levels.{bits_of}
use Rattle.tmcc_word.specs.declared.fault.TmccFault.{TmccFault}
use Rattle.tmcc_word.specs.Fields.{TmccFields}
use Rattle.tmcc_word.specs.Reading.{read}
use Rattle.layer_chain.specs.OuterWords.{given_out}
use Rattle.seg_receiver.specs.CellStream.{FrameCells, segment_cells, View}
use Rattle.seg_receiver.specs.Epochs.{epoch_start}

-- the bits of the cell at place w of epoch symbol y of a layer, from the epoch's first frame and the layer's first segment
abbrev pub place_bits : Mode → LayerParameters → FrameCells → ℕ → ℕ → ℕ → ℕ → ℕ
place_bits mode l cell start first y w = bits_of l.modulation (cell (start + y / frame_symbols) (y % frame_symbols) (first + w / carriers mode) (w % carriers mode))

-- packet j of a layer of a setting in frame f of an epoch, where the layer is used
abbrev pub setting_packet : Mode → FrameCells → ℕ → ℕ → Parameters → Layer → ℕ → Option LayerParameters → List ℕ
setting_packet mode cell start f s x j None = null_packet
setting_packet mode cell start f s x j (Some l) = given_out mode l (place_bits mode l cell start (first_segment s x)) (f - start) j

-- the same of what a word says
abbrev pub word_packet : Mode → FrameCells → ℕ → ℕ → Layer → ℕ → Result (TmccFields × Bool) TmccFault → List ℕ
word_packet mode cell start f x j (Err e) = null_packet
word_packet mode cell start f x j (Ok i) = setting_packet mode cell start f i.0.now x j (layer_of i.0.now x)

-- packet j of a layer in output frame f
unfoldable pub received_packets : View → FramePackets
received_packets v f x j = word_packet (v.mode f) v.cell (epoch_start v.word f) f x j (read (v.word f))

-- what a frame's packets bear, by its word and its epoch
abbrev pub tag_read : TmccFields × Bool → ℕ → ℕ → Tag
tag_read i start f = record { odd = i.1; first = start == f; start_up = i.0.start_up; countdown = i.0.countdown }

-- a frame of what its word says, nothing where the word is refused
abbrev pub word_frame : Mode → Guard → ℕ → ℕ → (Layer → ℕ → List ℕ) → Result (TmccFields × Bool) TmccFault → List ℕ
word_frame mode guard start f packet (Err e) = []
word_frame mode guard start f packet (Ok i) = ordered_frame mode guard i.0.now (tag_read i start f) null_packet packet

-- output frame f
unfoldable pub received_frame : View → ℕ → List ℕ
received_frame v f = word_frame (v.mode f) (v.guard f) (epoch_start v.word f) f (received_packets v f) (read (v.word f))

-- what a receiver writes for the first so many frames of a view
abbrev pub received : View → ℕ → List ℕ
received v count = product (received_frame v) count

-- ---- partial reception

-- the bits of the cells of a layer of one segment, by epoch symbol and place
abbrev pub segment_bits : Mode → LayerParameters → (ℕ → ℕ → ℕ → Cell) → ℕ → ℕ → ℕ → ℕ
segment_bits mode l cell start = place_bits mode l (λ g k segment carrier. cell g k carrier) start 0

-- layer A's packets that are given out in frame h of an epoch, from the cells of one segment: none before its delay
abbrev pub partial_packets : Mode → LayerParameters → (ℕ → ℕ → ℕ → Cell) → ℕ → ℕ → List ℕ
partial_packets mode l cell start h =
    if nat_le (layer_delay mode l) h
    then flat_map (given_out mode l (segment_bits mode l cell start) h) (range_with_len 0 (packets_per_frame mode l))
    else []

-- the same of what a word says
abbrev pub word_partial : Mode → (ℕ → ℕ → ℕ → Cell) → ℕ → ℕ → Result (TmccFields × Bool) TmccFault → List ℕ
word_partial mode cell start f (Err e) = []
word_partial mode cell start f (Ok i) = partial_packets mode i.0.now.a cell start (f - start)

-- layer A's packets in output frame f of partial reception, from the words, the modes and the cells of segment 0 alone
unfoldable pub partial_frame : View → ℕ → List ℕ
partial_frame v f = word_partial (v.mode f) (segment_cells v.cell) (epoch_start v.word f) f (read (v.word f))

-- what partial reception writes for the first so many frames of a view
abbrev pub received_partial : View → ℕ → List ℕ
received_partial v count = product (partial_frame v) count
