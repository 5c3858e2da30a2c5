-- What `code` finds in the broadcast packets of a plan's frames, and the cells of it.
use Rattle.std.proofs.Common.{◌≡◌, ℕ, ◌+◌, ◌-◌, ◌*◌, ◌/◌, ◌<◌, List, ◌++◌, length, take, drop, Some, arith, ap, sym, ◌∙◌, inl, inr}
use Rattle.ts_packet.proofs.PieceLaws.{length-null_packet}
use Rattle.std.specs.Prelude.{sum_by, min, true}
use Rattle.std.specs.List.{range_with_len}
use Rattle.std.proofs.lemmas.List.{take-take, length-take, length-drop}
use Rattle.isdbt_base.specs.declared.kinds.Layer.{Layer}
use Rattle.isdbt_base.specs.declared.stream.Writing.{Writing}
use Rattle.isdbt_base.specs.declared.stream.Reading.{Reading}
use Rattle.isdbt_base.specs.LayerParameters.{LayerParameters}
use Rattle.isdbt_base.specs.Parameters.{layer_of, number_of}
use Rattle.isdbt_base.specs.Numbers.{packets_per_frame}
use Rattle.isdbt_base.specs.Plans.{Schedule, at_frame, IsPlan}
use Rattle.isdbt_base.specs.Frames.{FramePackets}
use Rattle.isdbt_base.specs.Outcome.{product}
use Rattle.isdbt_base.proofs.OptionLaws.{option_cases}
use Rattle.isdbt_base.proofs.NumberLaws.{total-below_slots}
use Rattle.isdbt_base.proofs.RangeLaws.{flat_map-same}
use Rattle.ts_packet.specs.Packets.{piece, piece_count, null_packet}
use Rattle.frame_order.proofs.FrameBytes.{HasWholePackets, length-ordered_frame}
use Rattle.coder_core.specs.InputFrames.{bears_head, first_head, slots_at, packets_before, frame_start, frame_at, packet_in, input_frames}
use Rattle.coder_core.specs.SentCells.{sent_head, frame_cells, sent_frame}
use Rattle.coder_core.specs.CodeRefusals.{frames_from, coded_frame}
use Rattle.isdbt_base.proofs.Finding.{find-first_of}
use Rattle.isdbt_base.proofs.PlanEpochs.{setting_accepted, at_countdown-le}
use Rattle.coder_core.proofs.StablePlan.{frame_cells-same}
use Rattle.remux_core.specs.Multiplex.{broadcast, frame_tag}
use Rattle.seg_receiver.specs.CellStream.{view_of, writing_of}
use Rattle.seg_receiver.specs.Received.{received}
use Rattle.seg_receiver.specs.Delivered.{CanCarry, delivered, ArePackets}
use Rattle.seg_receiver.specs.Composed.{broadcast_stream, HaveSize}
use Rattle.seg_receiver.proofs.RangeCuts.{cut_at, length-sized}
use Rattle.seg_receiver.proofs.BroadcastSlots.{head-ordered_frame, packet_in-ordered_frame}
use Rattle.seg_receiver.proofs.NearDelivered.{received-near}
use Rattle.seg_receiver.proofs.CleanDelivered.{plan_cells-near}

-- ---- the frames

-- each packet of a frame has 188 bytes
pub whole_packets : (p : Schedule) (frames : FramePackets) (count f : ℕ) → HaveSize p frames count → f < count → HasWholePackets (at_frame p f).mode (at_frame p f).setting (frames f)
whole_packets p frames count f sizes h m in_m =
    elim (option_cases (layer_of (at_frame p f).setting m.layer)) [
      | inl none ↦ absurd (let e : number_of (packets_per_frame (at_frame p f).mode) (layer_of (at_frame p f).setting m.layer) ≡ 0 = ap (number_of (packets_per_frame (at_frame p f).mode)) none in omega (arith, e, in_m))
      | inr used ↦ sizes f m.index m.layer used.0 h used.1 (let e : number_of (packets_per_frame (at_frame p f).mode) (layer_of (at_frame p f).setting m.layer) ≡ packets_per_frame (at_frame p f).mode used.0 = ap (number_of (packets_per_frame (at_frame p f).mode)) used.1 in omega (arith, e, in_m))
    ]

pub length-broadcast : (p : Schedule) (frames : FramePackets) (count f : ℕ) → HaveSize p frames count → f < count → length (broadcast p frames f) ≡ 204 * slots_at p f
unfolding broadcast
length-broadcast p frames count f sizes h =
    length-ordered_frame (at_frame p f).mode (at_frame p f).guard (at_frame p f).setting (frame_tag (at_frame p f) f) null_packet (frames f) length-null_packet (whole_packets p frames count f sizes h)

pub slots-positive : (p : Schedule) (f : ℕ) → IsPlan p → 0 < slots_at p f
slots-positive p f plan = (let e = total-below_slots (at_frame p f).mode (at_frame p f).guard (at_frame p f).setting (setting_accepted p f plan) in omega (arith, e))

-- the bytes of frame f are its broadcast packets
pub frame_at-broadcast : (p : Schedule) (frames : FramePackets) (count f : ℕ) → HaveSize p frames count → f < count → frame_at (slots_at p) (broadcast_stream p frames count) 0 f ≡ broadcast p frames f
unfolding product packets_before
frame_at-broadcast p frames count f sizes h =
    cut_at (broadcast p frames) count f (frame_start (slots_at p) 0 f) (204 * slots_at p f) h
    (length-sized (broadcast p frames) (slots_at p) 204 0 f (λ k l m. length-broadcast p frames count k sizes (omega (arith, m, h)))
    ∙ ap (λ n. 204 * n) (let e : sum_by (slots_at p) (range_with_len 0 f) ≡ 0 + sum_by (slots_at p) (range_with_len 0 f) = omega arith in e))
    (length-broadcast p frames count f sizes h)

-- ---- the first head

pub first_packet : (p : Schedule) (frames : FramePackets) (count : ℕ) → IsPlan p → HaveSize p frames count → 0 < count → piece 204 (broadcast_stream p frames count) 0 ≡ piece 204 (broadcast p frames 0) 0
unfolding packets_before
first_packet p frames count plan sizes h =
    let stream = broadcast_stream p frames count in
    let some = slots-positive p 0 plan in
    sym (take-take 204 (204 * slots_at p 0) (drop (204 * 0) stream) (omega (arith, some)))
    ∙ ap (take 204) (frame_at-broadcast p frames count 0 sizes h)

head-first : (p : Schedule) (frames : FramePackets) (count : ℕ) → IsPlan p → HaveSize p frames count → 0 < count → bears_head (piece 204 (broadcast p frames 0) 0) ≡ true
unfolding broadcast
head-first p frames count plan sizes h =
    head-ordered_frame (at_frame p 0).mode (at_frame p 0).guard (at_frame p 0).setting (frame_tag (at_frame p 0) 0) (frames 0) (whole_packets p frames count 0 sizes h) (slots-positive p 0 plan)

some_piece : (p : Schedule) (frames : FramePackets) (count : ℕ) → IsPlan p → HaveSize p frames count → 0 < count → 0 < piece_count 204 (broadcast_stream p frames count)
some_piece p frames count plan sizes h =
    let stream = broadcast_stream p frames count in
    let some = slots-positive p 0 plan in
    let size : length (frame_at (slots_at p) stream 0 0) ≡ 204 * slots_at p 0 = ap length (frame_at-broadcast p frames count 0 sizes h) ∙ length-broadcast p frames count 0 sizes h in
    let a = length-take (204 * slots_at p 0) (drop (frame_start (slots_at p) 0 0) stream) in
    let b = length-drop (frame_start (slots_at p) 0 0) stream in
    more (length stream) (frame_start (slots_at p) 0 0) (slots_at p 0) (length (frame_at (slots_at p) stream 0 0)) (length (drop (frame_start (slots_at p) 0 0) stream)) some size a b
  where
    more : (n start slots len rest : ℕ) → 0 < slots → len ≡ 204 * slots → len ≡ min (204 * slots) rest → rest ≡ n - start → 0 < (n + 203) / 204
    more n start slots len rest some size a b = omega (arith, some, size, a, b)

pub first_head-broadcast : (p : Schedule) (frames : FramePackets) (count : ℕ) → IsPlan p → HaveSize p frames count → 0 < count → first_head (broadcast_stream p frames count) ≡ Some 0
unfolding first_head
first_head-broadcast p frames count plan sizes h =
    find-first_of (λ i. bears_head (piece 204 (broadcast_stream p frames count) i)) (piece_count 204 (broadcast_stream p frames count)) 0 (some_piece p frames count plan sizes h)
    (ap bears_head (first_packet p frames count plan sizes h) ∙ head-first p frames count plan sizes h)
    (λ k l. absurd (omega arith))

-- ---- the packets

packet_in-broadcast : (p : Schedule) (frames : FramePackets) (count f j : ℕ) (x : Layer) (l : LayerParameters) → IsPlan p → HaveSize p frames count → f < count → layer_of (at_frame p f).setting x ≡ Some l → j < packets_per_frame (at_frame p f).mode l
    → packet_in (broadcast p frames f) x j ≡ frames f x j
unfolding broadcast
packet_in-broadcast p frames count f j x l plan sizes h used k =
    packet_in-ordered_frame (at_frame p f).mode (at_frame p f).guard (at_frame p f).setting (frame_tag (at_frame p f) f) (frames f) x j (setting_accepted p f plan) (whole_packets p frames count f sizes h) (at_countdown-le p f)
    (let e : number_of (packets_per_frame (at_frame p f).mode) (layer_of (at_frame p f).setting x) ≡ packets_per_frame (at_frame p f).mode l = ap (number_of (packets_per_frame (at_frame p f).mode)) used in omega (arith, e, k))

pub input_frames-broadcast : (p : Schedule) (frames : FramePackets) (count f j : ℕ) (x : Layer) (l : LayerParameters) → IsPlan p → HaveSize p frames count → f < count → layer_of (at_frame p f).setting x ≡ Some l → j < packets_per_frame (at_frame p f).mode l
    → input_frames p (broadcast_stream p frames count) 0 f x j ≡ frames f x j
input_frames-broadcast p frames count f j x l plan sizes h used k =
    ap (λ frame. packet_in frame x j) (frame_at-broadcast p frames count f sizes h) ∙ packet_in-broadcast p frames count f j x l plan sizes h used k

-- ---- the cells

pub coded_frame-broadcast : (how : Writing) (p : Schedule) (frames : FramePackets) (count f : ℕ) → IsPlan p → HaveSize p frames count → f < count → coded_frame how p (broadcast_stream p frames count) f ≡ sent_frame how p frames f
unfolding coded_frame sent_frame
coded_frame-broadcast how p frames count f plan sizes h =
    let stream = broadcast_stream p frames count in
    ap (λ o. sent_head how p f ++ frame_cells p (frames_from p stream o) f) (first_head-broadcast p frames count plan sizes (omega (arith, h)))
    ∙ ap (λ cells. sent_head how p f ++ cells) (frame_cells-same p (frames_from p stream (Some 0)) frames f plan (λ g j x l le used k. input_frames-broadcast p frames count g j x l plan sizes (omega (arith, le, h)) used k))

pub product-same : (f g : ℕ → List ℕ) (n : ℕ) → ((k : ℕ) → k < n → f k ≡ g k) → product f n ≡ product g n
unfolding product
product-same f g n h = flat_map-same f g 0 n (λ k a b. h k (omega (arith, b)))

pub coded-broadcast : (how : Writing) (p : Schedule) (frames : FramePackets) (count : ℕ) → IsPlan p → HaveSize p frames count → product (coded_frame how p (broadcast_stream p frames count)) count ≡ product (sent_frame how p frames) count
coded-broadcast how p frames count plan sizes =
    product-same (coded_frame how p (broadcast_stream p frames count)) (sent_frame how p frames) count (λ f l. coded_frame-broadcast how p frames count f plan sizes l)

-- ---- what is received

pub sizes_of : (p : Schedule) (frames : FramePackets) (count : ℕ) → ArePackets p frames count → HaveSize p frames count
sizes_of p frames count packets f j x l h used k = (packets f j x l h used k).0.size

pub received-broadcast : (how : Reading) (p : Schedule) (frames : FramePackets) (count : ℕ) → IsPlan p → CanCarry how.form p count → ArePackets p frames count
    → received (view_of how (product (coded_frame (writing_of how.form) p (broadcast_stream p frames count)) count)) count ≡ delivered p frames count
received-broadcast how p frames count plan carries packets =
    ap (λ stream. received (view_of how stream) count) (coded-broadcast (writing_of how.form) p frames count plan (sizes_of p frames count packets))
    ∙ received-near (view_of how (product (sent_frame (writing_of how.form) p frames) count)) p frames count plan packets (plan_cells-near how p frames count plan carries packets)
