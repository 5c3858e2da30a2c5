-- The frames that the remultiplexer makes of the layers' inputs.
use Rattle.std.specs.Prelude.{ℕ, ◌+◌, ◌-◌, ◌%◌, ◌==◌, List, sum_by, if◌then◌else◌, nat_lt, max, false}
use Rattle.std.specs.declared.option.Option.{Option}
use Rattle.std.specs.List.{range_with_len}
use Rattle.std.specs.Int.{div_ceil}
use Rattle.isdbt_base.specs.declared.kinds.Layer.{Layer}
use Rattle.isdbt_base.specs.declared.kinds.Layer.TheVariants.{A, B, C}
use Rattle.isdbt_base.specs.declared.epoch.At.{At}
use Rattle.isdbt_base.specs.LayerParameters.{LayerParameters}
use Rattle.isdbt_base.specs.Parameters.{layer_of, number_of}
use Rattle.isdbt_base.specs.Numbers.{packets_per_frame, layer_delay, greatest_delay}
use Rattle.isdbt_base.specs.Plans.{Schedule, at_frame}
use Rattle.isdbt_base.specs.Epochs.{last_start, last_sent, leaves_after}
use Rattle.isdbt_base.specs.Frames.{FramePackets}
use Rattle.ts_packet.specs.Packets.{null_packet, piece_or_null, piece_count}
use Rattle.bts_info.specs.Fields.{Tag}
use Rattle.frame_order.specs.OrderedFrame.{ordered_frame}

-- the layer's parameters at a frame, if it is used
abbrev pub layer_at : Schedule → ℕ → Layer → Option LayerParameters
layer_at p f x = layer_of (at_frame p f).setting x

-- the delay of a layer in the setting of a frame, and 0 where it isn't used there
abbrev pub frame_delay : Schedule → ℕ → Layer → ℕ
frame_delay p f x = number_of (layer_delay (at_frame p f).mode) (layer_at p f x)

-- how many input packets a frame places of a layer, where this holds at the frame: its packets where they will be given out within the epoch, else none
abbrev pub filled_at : At → ℕ → Layer → ℕ
filled_at at f x = number_of (λ l. if leaves_after f at.end (layer_delay at.mode l) then packets_per_frame at.mode l else 0) (layer_of at.setting x)

abbrev pub filled : Schedule → Layer → ℕ → ℕ
filled p x f = filled_at (at_frame p f) f x

-- how many input packets of a layer the frames before a frame place
unfoldable pub placed_before : Schedule → Layer → ℕ → ℕ
placed_before p x f = sum_by (filled p x) (range_with_len 0 f)

-- packet j of a layer in a frame: the next piece of the input where the frame places input packets and there is one, else the null packet
unfoldable pub multiplexed : Schedule → (Layer → List ℕ) → FramePackets
multiplexed p input f x j = if nat_lt j (filled p x f) then piece_or_null (input x) (placed_before p x f + j) else null_packet

-- how many frames of the last epoch have input packets of a layer to place, by the count of its input packets
abbrev pub data_frames_of : Schedule → (Layer → ℕ) → Layer → ℕ
data_frames_of p count x = number_of (λ l. div_ceil (count x - placed_before p x (last_start p)) (packets_per_frame (last_sent p).mode l)) (layer_of (last_sent p).setting x)

abbrev pub data_frames : Schedule → (Layer → ℕ) → ℕ
data_frames p count = max (data_frames_of p count A) (max (data_frames_of p count B) (data_frames_of p count C))

-- the count of frames: the epochs before the last, the frames with data, and as many as the greatest delay
unfoldable pub frame_count : Schedule → (Layer → ℕ) → ℕ
frame_count p count = last_start p + (if data_frames p count == 0 then 0 else data_frames p count + greatest_delay (last_sent p).mode (last_sent p).setting)

-- how many packets the layers' inputs have, an unfinished one included
abbrev pub packet_count : (Layer → List ℕ) → Layer → ℕ
packet_count input x = piece_count 188 (input x)

-- what all packets of a frame bear
abbrev pub frame_tag : At → ℕ → Tag
frame_tag at f = record { odd = f % 2 == 1; first = at.start == f; start_up = false; countdown = at.countdown }

-- the broadcast packets of frame f
unfoldable pub broadcast : Schedule → FramePackets → ℕ → List ℕ
broadcast p frames f = ordered_frame (at_frame p f).mode (at_frame p f).guard (at_frame p f).setting (frame_tag (at_frame p f) f) null_packet (frames f)

-- what is written for frame f
abbrev pub written_frame : Schedule → (Layer → List ℕ) → ℕ → List ℕ
written_frame p input f = broadcast p (multiplexed p input) f
