-- `code` refuses no frame of the broadcast packets of a plan's frames.
use Rattle.std.proofs.Common.{◌≡◌, ℕ, zero, suc, ◌+◌, ◌-◌, ◌*◌, ◌≤◌, ◌<◌, Bool, true, false, List, [], ◌∷◌, length, Option, Some, None, refl, arith, ap, ◌∙◌, subst, inl, inr}
use Rattle.std.specs.Prelude.{slice_index, ◌==◌, nat_lt, map, if◌then◌else◌}
use Rattle.std.specs.List.{range_with_len}
use Rattle.std.proofs.lemmas.Bool.{eq-eqb, ne_eqb, lt-ltb, le-ltb}
use Rattle.isdbt_base.specs.declared.kinds.Layer.{Layer}
use Rattle.isdbt_base.specs.Parameters.{layer_of, number_of}
use Rattle.isdbt_base.specs.Numbers.{packets_per_frame}
use Rattle.isdbt_base.specs.Plans.{Schedule, at_frame, IsPlan}
use Rattle.isdbt_base.specs.Frames.{FramePackets}
use Rattle.isdbt_base.specs.Outcome.{product, first_some, IsOutcome}
use Rattle.isdbt_base.proofs.OptionLaws.{option_cases}
use Rattle.isdbt_base.proofs.Products.{product-none}
use Rattle.ts_packet.specs.Packets.{piece, sync_byte}
use Rattle.gf_rs.specs.Codewords.{IsBytes}
use Rattle.coder_core.specs.declared.fault.CodeFault.{CodeFault}
use Rattle.coder_core.specs.declared.fault.CodeFault.TheVariants.{TooLong}
use Rattle.coder_core.specs.FrameChecks.{refusal}
use Rattle.coder_core.specs.InputFrames.{first_head, slots_at, packets_before, frame_start, frame_at}
use Rattle.coder_core.specs.CodeRefusals.{search_limit, packet_refusal, looked_at, no_head, search_refusal, has_byte_of, truncated, frame_refusal, plan_cut, code_refusal, is_there}
use Rattle.coder_core.proofs.FirstCauses.{no_cause}
use Rattle.coder_core.proofs.FoundHead.{refusal-found, there-found}
use Rattle.coder_core.proofs.FrameStarts.{packets_before-suc}
use Rattle.isdbt_base.proofs.PlanEpochs.{setting_accepted, at_countdown-le}
use Rattle.coder_core.specs.Answers.{coding}
use Rattle.coder_core.proofs.SearchEnds.{empty_input}
use Rattle.remux_core.specs.Multiplex.{broadcast, frame_tag, multiplexed, written_frame}
use Rattle.remux_core.specs.Parts.{IsGood}
use Rattle.seg_receiver.specs.Delivered.{ArePackets}
use Rattle.seg_receiver.specs.Composed.{broadcast_stream}
use Rattle.seg_receiver.proofs.RangeCuts.{length-sized}
use Rattle.seg_receiver.proofs.FoundFrames.{whole_packets, length-broadcast, slots-positive, first_packet, sizes_of, first_head-broadcast, frame_at-broadcast}
use Rattle.seg_receiver.proofs.GoodFrames.{HasSyncBytes, sync-slot, refusal-ordered_frame}
use Rattle.seg_receiver.proofs.MultiplexedBytes.{multiplexed-packets}

-- ---- lengths

before-more : (p : Schedule) (f n : ℕ) → packets_before (slots_at p) f + slots_at p f ≤ packets_before (slots_at p) (suc f + n)
before-more p f zero =
    let e : suc f + 0 ≡ suc f = omega arith in
    let more = packets_before-suc (slots_at p) f in
    let same = ap (packets_before (slots_at p)) e in
    omega (arith, more, same)
before-more p f (suc n) =
    let e : suc f + suc n ≡ suc (suc f + n) = omega arith in
    let more = packets_before-suc (slots_at p) (suc f + n) in
    let same = ap (packets_before (slots_at p)) e in
    let so_far = before-more p f n in
    omega (arith, more, same, so_far)

before-rises : (p : Schedule) (f count : ℕ) → f < count → packets_before (slots_at p) f + slots_at p f ≤ packets_before (slots_at p) count
before-rises p f count lt =
    let e : suc f + (count - suc f) ≡ count = omega (arith, lt) in
    subst (λ n. packets_before (slots_at p) f + slots_at p f ≤ packets_before (slots_at p) n) e (before-more p f (count - suc f))

pub length-stream : (p : Schedule) (frames : FramePackets) (count : ℕ) → ArePackets p frames count → length (broadcast_stream p frames count) ≡ 204 * packets_before (slots_at p) count
unfolding product packets_before
length-stream p frames count packets =
    length-sized (broadcast p frames) (slots_at p) 204 0 count (λ k l m. length-broadcast p frames count k (sizes_of p frames count packets) (omega (arith, m)))

-- ---- the search

none_of_three : (a b c : Option CodeFault) → a ≡ None → b ≡ None → c ≡ None → first_some (a ∷ b ∷ c ∷ []) ≡ None
none_of_three a b c ha hb hc = rw (ha, hb, hc) refl

none_of_two : (a b : Option CodeFault) → a ≡ None → b ≡ None → first_some (a ∷ b ∷ []) ≡ None
none_of_two a b ha hb = rw (ha, hb) refl

none_unless : (b : Bool) (fault : CodeFault) → b ≡ false → (if b then Some fault else None) ≡ None
none_unless b fault e = rw e refl

none_where : (b : Bool) (fault : CodeFault) → b ≡ true → (if b then None else Some fault) ≡ None
none_where b fault e = rw e refl

sync_bytes : (p : Schedule) (frames : FramePackets) (count f : ℕ) → ArePackets p frames count → f < count → HasSyncBytes (at_frame p f).mode (at_frame p f).setting (frames f)
sync_bytes p frames count f packets h m in_m =
    elim (option_cases (layer_of (at_frame p f).setting m.layer)) [
      | inl none ↦ absurd (let e : number_of (packets_per_frame (at_frame p f).mode) (layer_of (at_frame p f).setting m.layer) ≡ 0 = ap (number_of (packets_per_frame (at_frame p f).mode)) none in omega (arith, e, in_m))
      | inr used ↦ (packets f m.index m.layer used.0 h used.1 (let e : number_of (packets_per_frame (at_frame p f).mode) (layer_of (at_frame p f).setting m.layer) ≡ packets_per_frame (at_frame p f).mode used.0 = ap (number_of (packets_per_frame (at_frame p f).mode)) used.1 in omega (arith, e, in_m))).0.sync
    ]

first-sync : (p : Schedule) (frames : FramePackets) (count : ℕ) → IsPlan p → ArePackets p frames count → 0 < count → slice_index (piece 204 (broadcast p frames 0) 0) 0 ≡ sync_byte
unfolding broadcast
first-sync p frames count plan packets h =
    sync-slot (at_frame p 0).mode (at_frame p 0).guard (at_frame p 0).setting (frame_tag (at_frame p 0) 0) (frames 0) (whole_packets p frames count 0 (sizes_of p frames count packets) h) (sync_bytes p frames count 0 packets h) 0 (slots-positive p 0 plan)

first_fine : (p : Schedule) (frames : FramePackets) (count : ℕ) → IsPlan p → ArePackets p frames count → 0 < count → packet_refusal (broadcast_stream p frames count) 0 ≡ None
first_fine p frames count plan packets h =
    let stream = broadcast_stream p frames count in
    let len = length-stream p frames count packets in
    let some = slots-positive p 0 plan in
    let more = before-rises p 0 count h in
    let sync : slice_index (piece 204 stream 0) 0 ≡ sync_byte = ap (λ xs. slice_index xs 0) (first_packet p frames count plan (sizes_of p frames count packets) h) ∙ first-sync p frames count plan packets h in
    none_of_three _ _ _
    (none_unless (0 == search_limit) TooLong (ne_eqb 0 search_limit (λ e. omega (arith, e))))
    (none_unless (nat_lt (length stream) (204 * (0 + 1))) _ (le-ltb (length stream) (204 * (0 + 1)) (omega (arith, len, some, more))))
    (none_where (slice_index (piece 204 stream 0) 0 == sync_byte) _ (eq-eqb (slice_index (piece 204 stream 0) 0) sync_byte sync))

searched : (stream : List ℕ) → first_head stream ≡ Some 0 → packet_refusal stream 0 ≡ None → search_refusal stream ≡ None
unfolding search_refusal
searched stream found fine =
    ap (λ o. first_some (first_some (map (packet_refusal stream) (range_with_len 0 (looked_at stream o))) ∷ no_head stream o ∷ [])) found
    ∙ none_of_two (first_some (map (packet_refusal stream) (range_with_len 0 1))) None
    (no_cause (packet_refusal stream) 1 (λ k less. ap (packet_refusal stream) (let e : k ≡ 0 = omega (arith, less) in e) ∙ fine)) refl

-- ---- the frames

pub refusal-broadcast : (p : Schedule) (frames : FramePackets) (count f first : ℕ) → IsPlan p → ArePackets p frames count → f < count → refusal (at_frame p f).setting (at_frame p f).mode f first (broadcast p frames f) ≡ None
unfolding broadcast
refusal-broadcast p frames count f first plan packets h =
    refusal-ordered_frame (at_frame p f).mode (at_frame p f).guard (at_frame p f).setting (frame_tag (at_frame p f) f) (frames f) f first (setting_accepted p f plan) (whole_packets p frames count f (sizes_of p frames count packets) h) (sync_bytes p frames count f packets h) (at_countdown-le p f)

has_bytes : (p : Schedule) (frames : FramePackets) (count f : ℕ) → IsPlan p → ArePackets p frames count → f < count → has_byte_of (slots_at p) (broadcast_stream p frames count) 0 f ≡ true
has_bytes p frames count f plan packets h =
    let len = length-stream p frames count packets in
    let some = slots-positive p f plan in
    let more = before-rises p f count h in
    lt-ltb (frame_start (slots_at p) 0 f) (length (broadcast_stream p frames count)) (omega (arith, len, some, more))

all_read : (p : Schedule) (frames : FramePackets) (count : ℕ) → ArePackets p frames count → has_byte_of (slots_at p) (broadcast_stream p frames count) 0 count ≡ false
all_read p frames count packets = (let len = length-stream p frames count packets in le-ltb (frame_start (slots_at p) 0 count) (length (broadcast_stream p frames count)) (omega (arith, len)))

where_there : (b : Bool) (o : Option CodeFault) → o ≡ None → (if b then o else None) ≡ None
where_there true o e = e
where_there false o e = refl

none_past : (b : Bool) (o : Option CodeFault) → b ≡ false → (if b then o else None) ≡ None
none_past b o e = rw e refl

frame_fine : (p : Schedule) (frames : FramePackets) (count limit f : ℕ) → IsPlan p → ArePackets p frames count → count ≤ limit → f < count → frame_refusal (plan_cut p) (broadcast_stream p frames count) limit 0 f ≡ None
frame_fine p frames count limit f plan packets room h =
    let stream = broadcast_stream p frames count in
    let len = length-stream p frames count packets in
    let more = before-rises p f count h in
    let sizes = sizes_of p frames count packets in
    where_there (has_byte_of (slots_at p) stream 0 f) (first_some ((if f == limit then Some TooLong else None) ∷ truncated (slots_at p) stream 0 f ∷ refusal (at_frame p f).setting (at_frame p f).mode f (0 + packets_before (slots_at p) f) (frame_at (slots_at p) stream 0 f) ∷ []))
    (none_of_three (if f == limit then Some TooLong else None) (truncated (slots_at p) stream 0 f) (refusal (at_frame p f).setting (at_frame p f).mode f (0 + packets_before (slots_at p) f) (frame_at (slots_at p) stream 0 f))
    (none_unless (f == limit) TooLong (ne_eqb f limit (λ e. omega (arith, e, h, room))))
    (none_unless (nat_lt (length stream) (frame_start (slots_at p) 0 f + 204 * slots_at p f)) _ (le-ltb (length stream) (frame_start (slots_at p) 0 f + 204 * slots_at p f) (omega (arith, len, more))))
    (ap (refusal (at_frame p f).setting (at_frame p f).mode f (0 + packets_before (slots_at p) f)) (frame_at-broadcast p frames count f sizes h)
    ∙ refusal-broadcast p frames count f (0 + packets_before (slots_at p) f) plan packets h))

-- ---- the outcome

some_accepted : (p : Schedule) (frames : FramePackets) (count limit : ℕ) → IsPlan p → ArePackets p frames count → count ≤ limit → 0 < count
    → IsOutcome (code_refusal p (broadcast_stream p frames count) limit) (is_there p (broadcast_stream p frames count)) count None
some_accepted p frames count limit plan packets room some =
    let stream = broadcast_stream p frames count in
    let found = first_head-broadcast p frames count plan (sizes_of p frames count packets) some in
    let fine = searched stream found (first_fine p frames count plan packets some) in
    record {
      before = λ f h. (refusal-found (plan_cut p) stream limit 0 f found fine ∙ frame_fine p frames count limit f plan packets room h, there-found (slots_at p) stream 0 f found ∙ has_bytes p frames count f plan packets h);
      at = refusal-found (plan_cut p) stream limit 0 count found fine ∙ none_past (has_byte_of (slots_at p) stream 0 count) (first_some ((if count == limit then Some TooLong else None) ∷ truncated (slots_at p) stream 0 count ∷ refusal (at_frame p count).setting (at_frame p count).mode count (0 + packets_before (slots_at p) count) (frame_at (slots_at p) stream 0 count) ∷ [])) (all_read p frames count packets);
      done = λ e. there-found (slots_at p) stream 0 count found ∙ all_read p frames count packets;
    }

pub accepted-broadcast : (p : Schedule) (frames : FramePackets) (count limit : ℕ) → IsPlan p → ArePackets p frames count → count ≤ limit
    → IsOutcome (code_refusal p (product (broadcast p frames) count) limit) (is_there p (product (broadcast p frames) count)) count None
accepted-broadcast p frames zero limit plan packets room = (empty_input (coding (record { v2 = false }) p) (product (broadcast p frames) 0) limit (Some []) None (product-none (broadcast p frames)) refl).ended.outcome
accepted-broadcast p frames (suc n) limit plan packets room = some_accepted p frames (suc n) limit plan packets room (omega arith)

pub accepted-written : (p : Schedule) (input : Layer → List ℕ) (count limit : ℕ) → IsPlan p → ((x : Layer) → IsGood (input x)) → ((x : Layer) → IsBytes (input x)) → count ≤ limit
    → IsOutcome (code_refusal p (product (written_frame p input) count) limit) (is_there p (product (written_frame p input) count)) count None
accepted-written p input count limit plan good all room = accepted-broadcast p (multiplexed p input) count limit plan (multiplexed-packets p input count good all) room
