-- Near cells of a plan are received as the plan's packets, each put off by its layer's delay.
use Rattle.std.proofs.Common.{◌≡◌, ℕ, zero, suc, ◌+◌, ◌-◌, ◌*◌, ◌%◌, ◌≤◌, ◌<◌, Bool, List, refl, arith, ap, sym, ◌∙◌, subst, inl, inr, Some, Ok}
use Rattle.ts_packet.specs.Packets.{null_packet}
use Rattle.std.specs.Prelude.{if◌then◌else◌, ◌==◌, length}
use Rattle.std.proofs.lemmas.Bool.Decides.{leb_tells}
use Rattle.isdbt_base.proofs.OptionLaws.{option_cases}
use Rattle.isdbt_base.specs.declared.kinds.Layer.{Layer}
use Rattle.isdbt_base.specs.LayerParameters.{LayerParameters}
use Rattle.isdbt_base.specs.Parameters.{layer_of, number_of}
use Rattle.isdbt_base.specs.Numbers.{packets_per_frame, layer_delay, first_segment}
use Rattle.isdbt_base.specs.Plans.{Schedule, at_frame, IsPlan}
use Rattle.isdbt_base.specs.Frames.{FramePackets}
use Rattle.isdbt_base.specs.Outcome.{product}
use Rattle.isdbt_base.proofs.RangeLaws.{flat_map-same}
use Rattle.frame_order.specs.OrderedFrame.{ordered_frame}
use Rattle.frame_order.proofs.FrameBytes.{ordered_frame-same}
use Rattle.tmcc_word.specs.Reading.{read}
use Rattle.layer_chain.specs.OuterWords.{outer_word, unit_answer, given_out}
use Rattle.layer_chain.proofs.NearAnswers.{near_answer}
use Rattle.coder_core.specs.SentCells.{plan_word, plan_info}
use Rattle.isdbt_base.proofs.PlanEpochs.{epoch_start-le, same_epoch}
use Rattle.coder_core.proofs.PlanWords.{read-plan_word}
use Rattle.remux_core.specs.Multiplex.{broadcast, frame_tag}
use Rattle.seg_receiver.specs.CellStream.{View}
use Rattle.seg_receiver.specs.Epochs.{countdown_read, epoch_start}
use Rattle.seg_receiver.specs.Received.{place_bits, setting_packet, word_packet, received_packets, tag_read, word_frame, received_frame, received}
use Rattle.seg_receiver.specs.Delivered.{into_epoch, delayed_packet, delivered_packets, delivered, ArePackets, AreWordsNear, outer_word_at, IsNear}
use Rattle.seg_receiver.proofs.EpochStarts.{epoch_start-zero, epoch_start-suc}

-- the receiver sees the plan's epochs
pub epoch_start-plan : (p : Schedule) (words : ℕ → List Bool) (f : ℕ) → IsPlan p → ((g : ℕ) → g < f → words g ≡ plan_word p g) → epoch_start words f ≡ (at_frame p f).start
unfolding epoch_start
epoch_start-plan p words zero plan same = sym (epoch_start-zero p plan)
epoch_start-plan p words (suc f) plan same =
    ap (λ w. if countdown_read (read w) == 0 then suc f else epoch_start words f) (same f (omega arith))
    ∙ ap (λ r. if countdown_read r == 0 then suc f else epoch_start words f) (read-plan_word p f plan)
    ∙ ap (λ start. if (at_frame p f).countdown == 0 then suc f else start) (epoch_start-plan p words f plan (λ g h. same g (omega arith)))
    ∙ sym (epoch_start-suc p f plan)

-- an outer word has 204 bytes
length-outer_word : (t : ℕ) (decided : ℕ → Bool) (m : ℕ) → length (outer_word t decided m) ≡ 204
unfolding outer_word
length-outer_word t decided m = refl

-- a unit that is given out
pub unit-near : (v : View) (p : Schedule) (frames : FramePackets) (count : ℕ) (x : Layer) → IsPlan p → ArePackets p frames count → AreWordsNear v p frames count x →
    (f j : ℕ) (l : LayerParameters) → f < count → layer_of (at_frame p f).setting x ≡ Some l → layer_delay (at_frame p f).mode l ≤ into_epoch p f → j < packets_per_frame (at_frame p f).mode l →
    unit_answer (at_frame p f).mode l (place_bits (at_frame p f).mode l v.cell (at_frame p f).start (first_segment (at_frame p f).setting x)) ((into_epoch p f - layer_delay (at_frame p f).mode l) * packets_per_frame (at_frame p f).mode l + j)
    ≡ frames (f - layer_delay (at_frame p f).mode l) x j
unfolding unit_answer
unit-near v p frames count x plan packets near f j l h used late k =
    let g = f - layer_delay (at_frame p f).mode l in
    let start = epoch_start-le p f in
    let epoch = same_epoch p g f plan (omega arith) (omega (arith, late, start)) in
    let packet = packets g j x l (omega (arith, h)) (ap (λ s. layer_of s x) epoch.setting ∙ used) (subst (λ m. j < packets_per_frame m l) (sym epoch.mode) k) in
    near_answer (outer_word_at v p l x f j) (frames g x j) (length-outer_word _ _ _) packet.0 packet.1 (near f j l h used late k)

-- packet j of a layer that is given out in frame f
pub given_out-near : (v : View) (p : Schedule) (frames : FramePackets) (count : ℕ) (x : Layer) → IsPlan p → ArePackets p frames count → AreWordsNear v p frames count x →
    (f j : ℕ) (l : LayerParameters) → f < count → layer_of (at_frame p f).setting x ≡ Some l → j < packets_per_frame (at_frame p f).mode l →
    given_out (at_frame p f).mode l (place_bits (at_frame p f).mode l v.cell (at_frame p f).start (first_segment (at_frame p f).setting x)) (into_epoch p f) j ≡ delayed_packet p frames f x j (Some l)
unfolding given_out
given_out-near v p frames count x plan packets near f j l h used k =
    elim (leb_tells (layer_delay (at_frame p f).mode l) (into_epoch p f)) [
      | inr early ↦ rw early.0 refl
      | inl late ↦ rw late.0 (unit-near v p frames count x plan packets near f j l h used late.1 k)
    ]

pub received_packets-near : (v : View) (p : Schedule) (frames : FramePackets) (count : ℕ) (x : Layer) → IsPlan p → ArePackets p frames count → AreWordsNear v p frames count x →
    (f j : ℕ) → f < count → v.mode f ≡ (at_frame p f).mode → ((g : ℕ) → g ≤ f → v.word g ≡ plan_word p g) → j < number_of (packets_per_frame (at_frame p f).mode) (layer_of (at_frame p f).setting x) →
    received_packets v f x j ≡ delivered_packets p frames f x j
unfolding received_packets
received_packets-near v p frames count x plan packets near f j h same_mode same k =
    let mode = (at_frame p f).mode in
    let s = (at_frame p f).setting in
    let start = (at_frame p f).start in
    let word : read (v.word f) ≡ Ok (plan_info p f, f % 2 == 1) = ap read (same f (omega arith)) ∙ read-plan_word p f plan in
    let begun : epoch_start v.word f ≡ (at_frame p f).start = epoch_start-plan p v.word f plan (λ g l. same g (omega arith)) in
    ap (λ m. word_packet m v.cell (epoch_start v.word f) f x j (read (v.word f))) same_mode
    ∙ ap (word_packet mode v.cell (epoch_start v.word f) f x j) word
    ∙ ap (λ u. setting_packet mode v.cell u f s x j (layer_of s x)) begun
    ∙ elim (option_cases (layer_of (at_frame p f).setting x)) [
      | inl none ↦ ap (setting_packet mode v.cell start f s x j) none ∙ sym (ap (delayed_packet p frames f x j) none)
      | inr used ↦ (let l = used.0 in
          let within : j < packets_per_frame mode l = subst (λ o. j < number_of (packets_per_frame mode) o) used.1 k in
          ap (setting_packet mode v.cell start f s x j) used.1
          ∙ given_out-near v p frames count x plan packets near f j l h used.1 within
          ∙ sym (ap (delayed_packet p frames f x j) used.1))
    ]

-- each frame of a near view is delivered
pub received_frame-near : (v : View) (p : Schedule) (frames : FramePackets) (count : ℕ) → IsPlan p → ArePackets p frames count → IsNear v p frames count → (f : ℕ) → f < count →
    received_frame v f ≡ broadcast p (delivered_packets p frames) f
unfolding received_frame broadcast
received_frame-near v p frames count plan packets near f h =
    let mode = (at_frame p f).mode in
    let guard = (at_frame p f).guard in
    let s = (at_frame p f).setting in
    let tag = frame_tag (at_frame p f) f in
    let got = received_packets v f in
    let due = delivered_packets p frames f in
    let same = λ (g : ℕ) (l : g ≤ f). near.words g (omega (arith, h, l)) in
    let word : read (v.word f) ≡ Ok (plan_info p f, f % 2 == 1) = ap read (near.words f h) ∙ read-plan_word p f plan in
    let begun : epoch_start v.word f ≡ (at_frame p f).start = epoch_start-plan p v.word f plan (λ g l. near.words g (omega (arith, h, l))) in
    ap (λ m. word_frame m (v.guard f) (epoch_start v.word f) f got (read (v.word f))) (near.modes f h)
    ∙ ap (λ g. word_frame mode g (epoch_start v.word f) f got (read (v.word f))) (near.guards f h)
    ∙ ap (word_frame mode guard (epoch_start v.word f) f got) word
    ∙ ap (λ u. ordered_frame mode guard s (tag_read (plan_info p f, f % 2 == 1) u f) null_packet got) begun
    ∙ ordered_frame-same mode guard s tag null_packet got due (λ m k. received_packets-near v p frames count m.layer plan packets (near.close m.layer) f m.index h (near.modes f h) same k)

-- near cells of a plan are delivered
pub received-near : (v : View) (p : Schedule) (frames : FramePackets) (count : ℕ) → IsPlan p → ArePackets p frames count → IsNear v p frames count → received v count ≡ delivered p frames count
unfolding product
received-near v p frames count plan packets near =
    flat_map-same (received_frame v) (broadcast p (delivered_packets p frames)) 0 count (λ f a h. received_frame-near v p frames count plan packets near f (omega (arith, h)))
