use Rattle.std.proofs.Common.{◌≡◌, Bool, ◌+◌, vec_items, Ok, refl, ap, subst, ◌∙◌, arith}
use Rattle.edge_io.specs.declared.shelf.Seat.TheVariants as seats
use Rattle.coder_core.specs.InputFrames.{slots_at}
use Rattle.coder_core.specs.FrameSteps.{Progress, StepAnswer, coding_run, AtFrame}
use Rattle.coder_core.proofs.FrameStarts.{slots-some, packets_before-zero, packets_before-next}
use Rattle.coder_core.proofs.CodeProgress.{begin}
use Rattle.coder_core.proofs.coding.code_frames.Goals as goal

pub loop-number-init : goal.loop-number-init
loop-number-init g c = record {
  coder = λ same. c.requires.coder;
  place = (let none = packets_before-zero (slots_at c.args.sending.plan.now) in omega (arith, none, c.from-first_packet.ensures));
  few = omega (arith, c.from-first_packet.ensures, c.requires.head);
  held_few = omega arith;
  held_later = λ less. absurd (omega (arith, less));
  room_for = c.requires.has_room;
  is_open = c.requires.is_open;
  still_open = refl;
  shelf_kept = refl;
  sink_kept = refl;
  sink_room = refl;
  told = λ input found. record { so_far = begin (coding_run c.args.sending.how c.args.sending.plan.now input c.args.span.limit c.args.span.head) _ _ _ found; stands = λ same. c.requires.fresh _ };
}

pub returns-in-Ok-false-clause-answer : goal.returns-in-Ok-false-clause-answer
returns-in-Ok-false-clause-answer g c = λ input found.
    let now = c.loop-number.invariant in
    let r = coding_run c.args.sending.how c.args.sending.plan.now input c.args.span.limit c.args.span.head in
    let f = c.loop-number.number in
    let left' = g.H.Shelf.left c.code_frame.new.shelf seats.In in
    let before = g.K.Sink.written c.args.sink.now in
    let after = g.K.Sink.written c.code_frame.new.sink in
    let next = AtFrame c.args.sending.how c.args.sending.plan.now input c.args.span.limit c.args.span.head (f + 1) 0 c.code_frame.new.coder (vec_items c.code_frame.new.buffers.frame) left' before after in
    let P : Bool → Type 0 = λ b. StepAnswer r f next left' before after (Ok b) in
    subst P c.in-Ok-false.field-0-test (c.in-Ok-false.ensures.answer input c.args.span.limit c.args.span.head before c.loop-number-test.true now.place (now.told input found))

pub returns-in-Err-clause-answer : goal.returns-in-Err-clause-answer
returns-in-Err-clause-answer g c = λ input found.
    let now = c.loop-number.invariant in
    c.in-Err.ensures.answer input c.args.span.limit c.args.span.head (g.K.Sink.written c.args.sink.now) c.loop-number-test.true now.place (now.told input found)

pub loop-number-preserved : goal.loop-number-preserved
loop-number-preserved g c =
    let how = c.args.sending.how in
    let p = c.args.sending.plan.now in
    let f = c.loop-number.number in
    let now = c.loop-number.invariant in
    record {
      coder = c.in-Ok-true.ensures.next_coder c.in-Ok-true.field-0-test;
      place = (let more = packets_before-next (slots_at p) f in let place = now.place in omega (arith, more, place, c.from-first_packet-in-loop-number.ensures, c.slots_at.ensures.value));
      few = (let few = now.few in omega (arith, few, c.from-first_packet-in-loop-number.ensures, c.slots_at.ensures.most));
      held_few = omega arith;
      held_later = λ less. refl;
      room_for = c.in-Ok-true.ensures.kept;
      is_open = ap (λ f. f seats.In) c.in-Ok-true.ensures.still_open ∙ now.is_open;
      still_open = c.in-Ok-true.ensures.still_open ∙ now.still_open;
      shelf_kept = c.in-Ok-true.ensures.cause.0 ∙ now.shelf_kept;
      sink_kept = c.in-Ok-true.ensures.cause.1 ∙ now.sink_kept;
      sink_room = c.in-Ok-true.ensures.sink_room ∙ now.sink_room;
      told = λ input found. (
          let r = coding_run how p input c.args.span.limit c.args.span.head in
          let left' = g.H.Shelf.left c.code_frame.new.shelf seats.In in
          let before = g.K.Sink.written c.args.sink.now in
          let after = g.K.Sink.written c.code_frame.new.sink in
          let next = AtFrame how p input c.args.span.limit c.args.span.head (f + 1) 0 c.code_frame.new.coder (vec_items c.code_frame.new.buffers.frame) left' before after in
          let P : Bool → Type 0 = λ b. StepAnswer r f next left' before after (Ok b) in
          subst P c.in-Ok-true.field-0-test (c.in-Ok-true.ensures.answer input c.args.span.limit c.args.span.head (g.K.Sink.written c.args.sink.now) c.loop-number-test.true now.place (now.told input found)));
    }

pub returns-clause-answer : goal.returns-clause-answer
returns-clause-answer g c = λ input found.
    let r = coding_run c.args.sending.how c.args.sending.plan.now input c.args.span.limit c.args.span.head in
    let frame = vec_items c.loop-number.buffers.frame in
    let left = g.H.Shelf.left c.loop-number.shelf seats.In in
    let before = g.K.Sink.written c.args.sink.now in
    let now = g.K.Sink.written c.loop-number.sink in
    let end : c.loop-number.number ≡ c.args.span.limit = omega (arith, c.loop-number-test.false, c.loop-number.auto.number-end) in
    let none : c.loop-number.held ≡ 0 = c.loop-number.invariant.held_later (omega (arith, end, c.requires.some)) in
    let so_far = (c.loop-number.invariant.told input found).so_far in
    let here : Progress r c.args.span.limit 0 frame left before now = subst (λ h. Progress r c.args.span.limit h frame left before now) none (subst (λ n. Progress r n c.loop-number.held frame left before now) end so_far) in
    c.end_at_limit.ensures.answer r frame before now refl (slots-some c.args.sending.plan.now) here
