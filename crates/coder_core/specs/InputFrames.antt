-- The frames of a stream of broadcast packets of 204 bytes: from the first packet that bears the frame head flag on, as many packets a frame as the frame has slots.
use Rattle.std.specs.Prelude.{ℕ, ◌+◌, ◌*◌, Bool, Option, List, find, drop, take, slice_index, sum_by}
use Rattle.std.specs.List.{range_with_len}
use Rattle.isdbt_base.specs.declared.kinds.Layer.{Layer}
use Rattle.isdbt_base.specs.Numbers.{slots_per_frame}
use Rattle.isdbt_base.specs.Plans.{Schedule, at_frame}
use Rattle.isdbt_base.specs.Frames.{FramePackets}
use Rattle.ts_packet.specs.Packets.{piece, piece_count}
use Rattle.bts_info.specs.Information.{has_head}
use Rattle.coder_core.specs.FrameChecks.{layer_slots}

-- a broadcast packet bears the frame head flag
abbrev pub bears_head : List ℕ → Bool
bears_head packet = has_head (take 8 (drop 188 packet))

-- the first packet of a stream that bears it
unfoldable pub first_head : List ℕ → Option ℕ
first_head input = find (λ i. bears_head (piece 204 input i)) (range_with_len 0 (piece_count 204 input))

-- slots of a frame of a plan
abbrev pub slots_at : Schedule → ℕ → ℕ
slots_at p f = slots_per_frame (at_frame p f).mode (at_frame p f).guard

-- packets from the first head up to a frame, where each frame has so many slots
unfoldable pub packets_before : (ℕ → ℕ) → ℕ → ℕ
packets_before slots f = sum_by slots (range_with_len 0 f)

-- the byte of the stream at which a frame begins
abbrev pub frame_start : (ℕ → ℕ) → ℕ → ℕ → ℕ
frame_start slots head f = 204 * (head + packets_before slots f)

-- the bytes of a frame, fewer where the stream ends in it
abbrev pub frame_at : (ℕ → ℕ) → List ℕ → ℕ → ℕ → List ℕ
frame_at slots input head f = take (204 * slots f) (drop (frame_start slots head f) input)

-- packet j of a layer in the bytes of a frame: that in the slot that is number j of those that name the layer
unfoldable pub packet_in : List ℕ → Layer → ℕ → List ℕ
packet_in frame x j = take 188 (piece 204 frame (slice_index (layer_slots frame x) j))

-- the packets of all frames of a plan
abbrev pub input_frames : Schedule → List ℕ → ℕ → FramePackets
input_frames p input head f x j = packet_in (frame_at (slots_at p) input head f) x j
