-- What a sample counts of a layer: which input packets are met, and which received packets are marked.
use Rattle.std.specs.Prelude.{ℕ, Bool, nat_le, cond, slice_index, sum, sum_by, count_by}
use Rattle.std.specs.List.{range_with_len}
use Rattle.std.specs.Str.{bytes_eq}
use Rattle.isdbt_base.specs.declared.kinds.Layer.{Layer}
use Rattle.isdbt_base.specs.Frames.{FramePackets}
use Rattle.remux_core.specs.Multiplex.{multiplexed}
use Rattle.seg_receiver.specs.Received.{received_packets}
use Rattle.sample.specs.declared.counting.Tally.{Tally}
use Rattle.sample.specs.Generator.{made_packet}
use Rattle.sample.specs.SamplePlan.{sample_plan, sample_frames}
use Rattle.sample.specs.SampleInputs.{sample_input, input_packets, seed_of}
use Rattle.sample.specs.SpoiledCells.{spoiled_view}
use Rattle.sample.specs.Places.{sample_share, place_of}

-- the packets that are sent, by frame and layer
unfoldable pub sample_sent : ℕ → FramePackets
sample_sent number = multiplexed sample_plan (sample_input number)

-- the packets that are received of them
unfoldable pub sample_received : ℕ → FramePackets
sample_received number = received_packets (spoiled_view sample_plan (sample_sent number) sample_frames)

-- input packet i of a layer equals what is received in its place
unfoldable pub is_met : ℕ → Layer → ℕ → Bool
is_met number x i = bytes_eq (sample_received number (place_of x i).frame x (place_of x i).index) (made_packet (seed_of number x) i)

-- received packet j of a layer in output frame f has its transport error indicator set, the top bit of byte 1
unfoldable pub is_marked : ℕ → Layer → ℕ → ℕ → Bool
is_marked number x f j = nat_le 128 (slice_index (sample_received number f x j) 1)

-- what is counted of the first so many input packets and output frames: how many are met, how many are marked, and the sum of all bytes of those that are met
unfoldable pub tally_of : ℕ → Layer → ℕ → ℕ → Tally
tally_of number x packets frames = record {
  met = count_by (is_met number x) (range_with_len 0 packets);
  marked = sum_by (λ f. count_by (is_marked number x f) (range_with_len 0 (sample_share x f).packets)) (range_with_len 0 frames);
  sum = sum_by (λ i. cond (is_met number x i) (sum (made_packet (seed_of number x) i)) 0) (range_with_len 0 packets);
}

-- what is counted of all of them
abbrev pub sample_tally : ℕ → Layer → Tally
sample_tally number x = tally_of number x (input_packets x) sample_frames
