-- Near cells of a plan with partial reception: layer A's packets, from the cells of segment 0 alone.
use Rattle.std.proofs.Common.{◌≡◌, ℕ, ◌+◌, ◌-◌, ◌*◌, ◌/◌, ◌%◌, ◌<◌, [], flat_map, refl, arith, ap, ◌∙◌, Ok}
use Rattle.std.specs.Prelude.{◌==◌, if◌then◌else◌, nat_le}
use Rattle.std.specs.List.{range_with_len}
use Rattle.std.proofs.Math.Nat.{div-eq_of_lt}
use Rattle.isdbt_base.specs.declared.kinds.Mode.{Mode}
use Rattle.isdbt_base.specs.declared.kinds.Layer.TheVariants.{A}
use Rattle.isdbt_base.specs.LayerParameters.{LayerParameters}
use Rattle.isdbt_base.specs.Numbers.{carriers, layer_cells, packets_per_frame, layer_delay}
use Rattle.isdbt_base.specs.Plans.{Schedule, at_frame, IsPlan}
use Rattle.isdbt_base.specs.Frames.{FramePackets}
use Rattle.isdbt_base.specs.Outcome.{product}
use Rattle.isdbt_base.proofs.RangeLaws.{flat_map-same}
use Rattle.cell_map.specs.Levels.{bits_of}
use Rattle.tmcc_word.specs.Reading.{read}
use Rattle.layer_chain.specs.OuterWords.{given_out}
use Rattle.layer_chain.proofs.StableWords.{given_out-same}
use Rattle.coder_core.specs.SentCells.{plan_info}
use Rattle.isdbt_base.proofs.PlanEpochs.{setting_accepted}
use Rattle.coder_core.proofs.PlanWords.{read-plan_word}
use Rattle.seg_receiver.specs.CellStream.{FrameCells, segment_cells, View}
use Rattle.seg_receiver.specs.Epochs.{epoch_start}
use Rattle.seg_receiver.specs.Received.{place_bits, partial_packets, word_partial, partial_frame, received_partial}
use Rattle.seg_receiver.specs.Delivered.{into_epoch, delivered_packets, delivered_partial_frame, delivered_partial, ArePackets, IsNearPartial}
use Rattle.seg_receiver.proofs.NearDelivered.{epoch_start-plan, given_out-near}

-- a layer of one segment is read from segment 0 alone
one_segment : (mode : Mode) (l : LayerParameters) (cell : FrameCells) (start y w : ℕ) → l.segments ≡ 1 → w < layer_cells mode l →
    place_bits mode l (λ g k segment carrier. segment_cells cell g k carrier) start 0 y w ≡ place_bits mode l cell start 0 y w
one_segment mode l cell start y w one h =
    let size : layer_cells mode l ≡ carriers mode = ap (λ n. n * carriers mode) one ∙ (let e : 1 * carriers mode ≡ carriers mode = omega arith in e) in
    let none : 0 ≡ 0 + w / carriers mode = (let e = div-eq_of_lt {n = w} {m = carriers mode} (omega (arith, size)) in omega (arith, e)) in
    ap (λ segment. bits_of l.modulation (cell (start + y / 204) (y % 204) segment (w % carriers mode))) none

module _ (v : View) (p : Schedule) (frames : FramePackets) (count : ℕ) (plan : IsPlan p) (packets : ArePackets p frames count) (near : IsNearPartial v p frames count) where
  given_out-partial : (f j : ℕ) → f < count → j < packets_per_frame (at_frame p f).mode (at_frame p f).setting.a →
      given_out (at_frame p f).mode (at_frame p f).setting.a (place_bits (at_frame p f).mode (at_frame p f).setting.a (λ g k segment carrier. segment_cells v.cell g k carrier) (at_frame p f).start 0) (into_epoch p f) j ≡ delivered_packets p frames f A j
  given_out-partial f j h k =
      let mode = (at_frame p f).mode in
      let l = (at_frame p f).setting.a in
      let start = (at_frame p f).start in
      let accepted = setting_accepted p f plan in
      let single = accepted.partial (near.partial f h) in
      given_out-same mode l (place_bits mode l (λ g k segment carrier. segment_cells v.cell g k carrier) start 0) (place_bits mode l v.cell start 0) (into_epoch p f) j accepted.a_segments k
      (λ y w ly lw. one_segment mode l v.cell start y w single lw)
      ∙ given_out-near v p frames count A plan packets near.close f j l h refl k

  pub partial_frame-near : (f : ℕ) → f < count → partial_frame v f ≡ delivered_partial_frame p frames f
  unfolding partial_frame
  partial_frame-near f h =
      let mode = (at_frame p f).mode in
      let cell = segment_cells v.cell in
      let l = (at_frame p f).setting.a in
      let start = (at_frame p f).start in
      let word : read (v.word f) ≡ Ok (plan_info p f, f % 2 == 1) = ap read (near.words f h) ∙ read-plan_word p f plan in
      let begun : epoch_start v.word f ≡ (at_frame p f).start = epoch_start-plan p v.word f plan (λ g k. near.words g (omega (arith, h, k))) in
      let alike : partial_packets mode l cell start (into_epoch p f)
      ≡ (if nat_le (layer_delay mode l) (into_epoch p f) then flat_map (delivered_packets p frames f A) (range_with_len 0 (packets_per_frame mode l)) else []) =
      ap (λ xs. if nat_le (layer_delay mode l) (into_epoch p f) then xs else [])
      (flat_map-same (given_out mode l (place_bits mode l (λ g k segment carrier. cell g k carrier) start 0) (into_epoch p f)) (delivered_packets p frames f A) 0 (packets_per_frame mode l)
      (λ j a k. given_out-partial f j h (omega (arith, k)))) in
      ap (λ m. word_partial m cell (epoch_start v.word f) f (read (v.word f))) (near.modes f h)
      ∙ ap (word_partial mode cell (epoch_start v.word f) f) word
      ∙ ap (λ u. partial_packets mode l cell u (f - u)) begun
      ∙ alike

  -- near cells of a plan with partial reception are delivered
  pub received_partial-near : received_partial v count ≡ delivered_partial p frames count
  unfolding product
  received_partial-near = flat_map-same (partial_frame v) (delivered_partial_frame p frames) 0 count (λ f a h. partial_frame-near f (omega (arith, h)))
