-- The commands one after another.
use Rattle.std.proofs.Common.{◌≡◌, ℕ, ◌≤◌, Bool, true, false, List, [], ◌∷◌, None, Some, refl, sym, ◌∙◌, subst, arith, inl, inr}
use Rattle.std.proofs.lemmas.Bool.{cases_lt}
use Rattle.std.specs.declared.option.Option.{Option}
use Rattle.isdbt_base.specs.declared.kinds.Layer.{Layer}
use Rattle.isdbt_base.specs.declared.stream.Writing.{Writing}
use Rattle.isdbt_base.specs.declared.stream.Form.{Form}
use Rattle.isdbt_base.specs.declared.stream.Reading.{Reading}
use Rattle.isdbt_base.specs.Plans.{Transmission, Switch, Schedule, IsPlan, KeepsMode, at_frame, at_from}
use Rattle.isdbt_base.proofs.PlanEpochs.{at_from-after, at_from-before}
use Rattle.isdbt_base.specs.Frames.{FramePackets}
use Rattle.isdbt_base.specs.Outcome.{product, ArePassed}
use Rattle.gf_rs.specs.Codewords.{IsBytes}
use Rattle.edge_io.specs.FrameAnswers.{Finished}
use Rattle.remux_core.specs.Multiplex.{multiplexed, broadcast}
use Rattle.remux_core.specs.Parts.{IsGood}
use Rattle.coder_core.specs.InputFrames.{first_head}
use Rattle.coder_core.specs.CodeRefusals.{code_refusal, is_there, frames_from, coded_frame}
use Rattle.coder_core.specs.SentCells.{sent_frame}
use Rattle.coder_core.specs.Answers.{code_command}
use Rattle.coder_core.proofs.BehindEnd.{free}
use Rattle.seg_receiver.specs.CellStream.{View, view_of, writing_of, AreInRow, NoBadHead}
use Rattle.seg_receiver.specs.Received.{received_frame, partial_frame}
use Rattle.seg_receiver.specs.Delivered.{SendsIn, CanCarry, ArePackets, IsNear, delivered_packets, delivered_partial_frame}
use Rattle.seg_receiver.proofs.AcceptedStream.{accepted-written}
use Rattle.seg_receiver.proofs.CleanDelivered.{plan_cells-near, plan_cells-near_partial}
use Rattle.seg_receiver.proofs.CodedInput.{coded-near, coded-none}
use Rattle.seg_receiver.proofs.FoundFrames.{product-same, coded-broadcast, sizes_of}
use Rattle.seg_receiver.proofs.InputDelivered.{input_delivered}
use Rattle.seg_receiver.proofs.MultiplexedBytes.{multiplexed-packets}
use Rattle.seg_receiver.proofs.NearDelivered.{received_frame-near}
use Rattle.seg_receiver.proofs.NearHeads.{near-heads}
use Rattle.seg_receiver.proofs.NearOutcome.{near_outcome}
use Rattle.seg_receiver.proofs.PartialDelivered.{partial_frame-near}
use Rattle.seg_receiver.proofs.PlanViews.{in_row, carries_partial}
use Rattle.seg_receiver.proofs.RestoredWords.{restored-words}
use Rattle.seg_receiver.proofs.ViewLaws.{laid}
use Rattle.isdbt_cli.specs.Chain.{written_stream, form_of, CanCarryFor, HasFlags, IsNearFor, IsRestorableFor, IsReceivedAs, WroteNear, IsChain}
use Rattle.isdbt_cli.specs.FrameLimit.{frame_limit}

-- a view that is near a plan, and of which no head is refused, is received as what is delivered of it, and so is each front part of it
pub near_received : (v : View) (p : Schedule) (frames : FramePackets) (count : ℕ) (partial : Bool) → IsPlan p → AreInRow v count → NoBadHead v count → ArePackets p frames count → IsNearFor partial v p frames count → count ≤ frame_limit → IsReceivedAs partial v p frames count
near_received v p frames count false plan row fine packets near few = record {
  outcome = near_outcome v p false count frame_limit plan row fine near.whole near.words (λ f h e. absurd (cc)) few;
  product = λ m le. product-same (received_frame v) (broadcast p (delivered_packets p frames)) m (λ f less. received_frame-near v p frames count plan packets near f (omega (arith, le, less)));
}
near_received v p frames count true plan row fine packets near few = record {
  outcome = near_outcome v p true count frame_limit plan row fine near.whole near.words (λ f h e. near.partial f h) few;
  product = λ m le. product-same (partial_frame v) (delivered_partial_frame p frames) m (λ f less. partial_frame-near v p frames count plan packets near f (omega (arith, le, less)));
}

near_whole : (v : View) (p : Schedule) (frames : FramePackets) (count : ℕ) (partial : Bool) → IsNearFor partial v p frames count → v.size ≡ v.starts count
near_whole v p frames count false near = near.whole
near_whole v p frames count true near = near.whole

heads_fine : (how : Reading) (stream : List ℕ) (p : Schedule) (frames : FramePackets) (count : ℕ) (partial : Bool) → IsPlan p → IsNearFor partial (view_of how stream) p frames count → (partial ≡ true → NoBadHead (view_of how stream) count) → NoBadHead (view_of how stream) count
heads_fine how stream p frames count false plan near fine = near-heads how.fix how.form stream p frames count plan near
heads_fine how stream p frames count true plan near fine = fine refl

-- and so is a stream of a version that is near it
pub near_stream : (how : Reading) (stream : List ℕ) (p : Schedule) (frames : FramePackets) (count : ℕ) (partial : Bool) → IsPlan p → ArePackets p frames count → IsNearFor partial (view_of how stream) p frames count
    → (partial ≡ true → NoBadHead (view_of how stream) count) → count ≤ frame_limit → IsReceivedAs partial (view_of how stream) p frames count
near_stream how stream p frames count partial plan packets near fine few =
    near_received (view_of how stream) p frames count partial plan (in_row how.fix how.form stream count (sym (laid how.fix how.form stream).size ∙ near_whole (view_of how stream) p frames count partial near)) (heads_fine how stream p frames count partial plan near fine) packets near few

-- so is a stream whose words can be restored, where words are corrected
pub restored_stream : (how : Reading) (stream : List ℕ) (p : Schedule) (frames : FramePackets) (count : ℕ) (partial : Bool) → how.fix ≡ true → IsRestorableFor partial (view_of how stream) p frames count → IsNearFor partial (view_of how stream) p frames count
restored_stream how stream p frames count partial on near = near.1 (restored-words how stream p count on near.0)

-- the cells of a plan are near it in each version of the stream that can carry it
pub near_cells : (p : Schedule) (frames : FramePackets) (count : ℕ) (how : Reading) (partial : Bool) → IsPlan p → CanCarryFor partial how.form p count → ArePackets p frames count → HasFlags partial p count
    → IsNearFor partial (view_of how (product (sent_frame (writing_of how.form) p frames) count)) p frames count
near_cells p frames count how false plan carries packets flags = plan_cells-near how p frames count plan carries packets
near_cells p frames count how true plan carries packets flags = plan_cells-near_partial how p frames count plan carries packets (λ f h. flags f h refl)

carries_for : (form : Form) (p : Schedule) (count : ℕ) (partial : Bool) → CanCarry form p count → CanCarryFor partial form p count
carries_for form p count false carries = carries
carries_for form p count true carries = carries_partial p (λ f x j. []) count form carries

-- what is coded of a multiplex is what is sent of it
pub coded_multiplex : (how : Writing) (p : Schedule) (input : Layer → List ℕ) (count : ℕ) → IsPlan p → ((x : Layer) → IsGood (input x)) → ((x : Layer) → IsBytes (input x))
    → product (coded_frame how p (written_stream p input count)) count ≡ product (sent_frame how p (multiplexed p input)) count
coded_multiplex how p input count plan good bytes =
    coded-broadcast how p (multiplexed p input) count plan (sizes_of p (multiplexed p input) count (multiplexed-packets p input count good bytes))

pub chain : (p : Schedule) (how : Reading) (input : Layer → List ℕ) (count : ℕ) → IsPlan p → CanCarry how.form p count → ((x : Layer) → IsGood (input x)) → ((x : Layer) → IsBytes (input x))
    → count ≤ frame_limit → IsChain p input how count
chain p how input count plan carries good bytes few =
    let sent = multiplexed-packets p input count good bytes in
    let same = coded_multiplex (writing_of how.form) p input count plan good bytes in
    let all = accepted-written p input count frame_limit plan good bytes few in
    let near = plan_cells-near how p (multiplexed p input) count plan carries sent in
    record {
      coded = all;
      free = free p (written_stream p input count) frame_limit count all;
      cells = same;
      near = subst (λ cells. IsNear (view_of how cells) p (multiplexed p input) count) (sym same) near;
      packets = sent;
      received = λ partial flags. subst (λ cells. IsReceivedAs partial (view_of how cells) p (multiplexed p input) count) (sym same)
          (near_stream how (product (sent_frame (writing_of how.form) p (multiplexed p input)) count) p (multiplexed p input) count partial plan sent
          (near_cells p (multiplexed p input) count how partial plan (carries_for how.form p count partial carries) sent flags)
          (λ e. near-heads how.fix how.form (product (sent_frame (writing_of how.form) p (multiplexed p input)) count) p (multiplexed p input) count plan near) few);
      places = input_delivered p input;
    }

-- ---- a coding that is done

-- what holds at a frame has the mode and the guard interval that all switches keep
keeps_from : (t : Transmission) (start : ℕ) (ws : List Switch) (f : ℕ) → KeepsMode t ws → ((at_from t start ws f).mode ≡ t.mode) × ((at_from t start ws f).guard ≡ t.guard)
keeps_from t start [] f k = (refl, refl)
keeps_from t start (w ∷ ws) f k =
    elim (cases_lt f w.frame) [
      | inl before ↦ rw (at_from-before t start w ws f before) (refl, refl)
      | inr after ↦ rw (at_from-after t start w ws f after) (let later = keeps_from w.after w.frame ws f k.2 in (later.0 ∙ k.0, later.1 ∙ k.1))
    ]

pub keeps_frame : (p : Schedule) (f : ℕ) → KeepsMode p.first p.switches → ((at_frame p f).mode ≡ p.first.mode) × ((at_frame p f).guard ≡ p.first.guard)
keeps_frame p f k = keeps_from p.first 0 p.switches f k

-- a plan whose switches keep the mode and the guard interval sends all frames in them
pub sends_alike : (p : Schedule) (count : ℕ) → KeepsMode p.first p.switches → SendsIn p.first.mode p.first.guard p count
sends_alike p count keeps f less = keeps_frame p f keeps

-- ---- the version that a coding writes

pub written_so : (how : Writing) (p : Schedule) → writing_of (form_of how p) ≡ how
written_so how p = go how.v2
  where
    go : (v2 : Bool) → writing_of (form_of (record { v2 = v2 }) p) ≡ record { v2 = v2 }
    go true = refl
    go false = refl

-- it can carry a plan that keeps its mode and guard interval in version 1
pub can_carry : (how : Writing) (p : Schedule) (count : ℕ) → (how.v2 ≡ false → KeepsMode p.first p.switches) → CanCarry (form_of how p) p count
can_carry how p count keeps = go how.v2 keeps
  where
    go : (v2 : Bool) → (v2 ≡ false → KeepsMode p.first p.switches) → CanCarry (form_of (record { v2 = v2 }) p) p count
    go true keeps = tt
    go false keeps = sends_alike p count (keeps refl)

-- in a version that can carry the plan, the cells of an input are near the packets that are found in it
found_near : (how : Reading) (p : Schedule) (input : List ℕ) (m : ℕ) (o : Option ℕ) → IsPlan p → CanCarry how.form p m → IsBytes input
    → ArePassed (code_refusal p input frame_limit) (is_there p input) m → first_head input ≡ o
    → ArePackets p (frames_from p input o) m × IsNear (view_of how (product (coded_frame (writing_of how.form) p input) m)) p (frames_from p input o) m
found_near how p input m None plan carries bytes passed found =
    let writing = writing_of how.form in
    let empty = coded-none writing p input m frame_limit passed found in
    let frames : FramePackets = frames_from p input None in
    let packets : ArePackets p frames m = λ f j x l less used within. absurd (omega (arith, less, empty.0)) in
    let near = plan_cells-near how p frames m plan carries packets in
    let same : product (sent_frame writing p frames) m ≡ product (coded_frame writing p input) m = product-same (sent_frame writing p frames) (coded_frame writing p input) m
    (λ f less. absurd (omega (arith, less, empty.0))) in
    (packets, subst (λ cells. IsNear (view_of how cells) p frames m) same near)
found_near how p input m (Some head) plan carries bytes passed found = coded-near how p input m frame_limit head plan bytes passed carries found

pub wrote_near : (how : Writing) (p : Schedule) (input : List ℕ) (m : ℕ) (before after left : Option (List ℕ)) → IsPlan p → (how.v2 ≡ false → KeepsMode p.first p.switches) → IsBytes input
    → Finished (code_command how p input frame_limit) m before after left → WroteNear how p input m before after
wrote_near how p input m before after left plan keeps bytes done =
    let read : Bool → Reading = λ fix. record { form = form_of how p; fix = fix } in
    let found = λ (fix : Bool). found_near (read fix) p input m (first_head input) plan (can_carry how p m keeps) bytes done.ended.outcome.before refl in
    record {
      packets = (found false).0;
      near = λ fix. subst (λ w. IsNear (view_of (read fix) (product (coded_frame w p input) m)) p (frames_from p input (first_head input)) m) (written_so how p) (found fix).1;
      written = done.ended.written;
    }
