use Rattle.std.proofs.Common.{◌≡◌, ℕ, ◌+◌, ◌*◌, Bool, Ok, refl, ap, subst, ◌∙◌, arith}
use Rattle.edge_io.specs.declared.shelf.Seat.TheVariants as seats
use Rattle.coder_core.specs.FrameSteps.{Progress, StepAnswer, showing_run}
use Rattle.coder_core.proofs.CodeProgress.{begin}
use Rattle.coder_core.proofs.showing.show_frames.Goals as goal

first_packet : (head slots number h s n : ℕ) → h ≡ head → s ≡ slots → n ≡ number → h + s * n ≡ head + slots * number
first_packet head slots number h s n p q t = rw (p, q, t) refl

pub loop-number-init : goal.loop-number-init
loop-number-init g c = record {
  held_few = omega arith;
  held_later = λ less. absurd (omega (arith, less));
  is_open = c.requires.is_open;
  still_open = refl;
  shelf_kept = refl;
  sink_kept = refl;
  sink_room = refl;
  told = λ input found. begin (showing_run c.args.slots input c.args.span.limit c.args.span.head) _ _ _ found;
}

pub returns-in-Ok-false-clause-answer : goal.returns-in-Ok-false-clause-answer
returns-in-Ok-false-clause-answer g c = λ input found.
    let now = c.loop-number.invariant in
    let r = showing_run c.args.slots input c.args.span.limit c.args.span.head in
    let f = c.loop-number.number in
    let left' = g.H.Shelf.left c.show_frame.new.shelf seats.In in
    let before = g.K.Sink.written c.args.sink.now in
    let after = g.K.Sink.written c.show_frame.new.sink in
    let P : Bool → Type 0 = λ b. StepAnswer r f (Progress r (f + 1) 0 c.show_frame.new.frame left' before after) left' before after (Ok b) in
    let place = first_packet c.args.span.head c.args.slots f _ _ _ c.from.ensures c.from-in-loop-number.ensures c.from-in-loop-number-2.ensures in
    subst P c.in-Ok-false.field-0-test (c.in-Ok-false.ensures.answer input c.args.span.limit c.args.span.head before c.loop-number-test.true place (now.told input found))

pub returns-in-Err-clause-answer : goal.returns-in-Err-clause-answer
returns-in-Err-clause-answer g c = λ input found.
    let now = c.loop-number.invariant in
    let before = g.K.Sink.written c.args.sink.now in
    let place = first_packet c.args.span.head c.args.slots c.loop-number.number _ _ _ c.from.ensures c.from-in-loop-number.ensures c.from-in-loop-number-2.ensures in
    c.in-Err.ensures.answer input c.args.span.limit c.args.span.head before c.loop-number-test.true place (now.told input found)

pub loop-number-preserved : goal.loop-number-preserved
loop-number-preserved g c =
    let now = c.loop-number.invariant in
    record {
      held_few = omega arith;
      held_later = λ less. refl;
      is_open = ap (λ f. f seats.In) c.in-Ok-true.ensures.still_open ∙ now.is_open;
      still_open = c.in-Ok-true.ensures.still_open ∙ now.still_open;
      shelf_kept = c.in-Ok-true.ensures.cause.0 ∙ now.shelf_kept;
      sink_kept = c.in-Ok-true.ensures.cause.1 ∙ now.sink_kept;
      sink_room = c.in-Ok-true.ensures.sink_room ∙ now.sink_room;
      told = λ input found. (
          let r = showing_run c.args.slots input c.args.span.limit c.args.span.head in
          let f = c.loop-number.number in
          let left' = g.H.Shelf.left c.show_frame.new.shelf seats.In in
          let before = g.K.Sink.written c.args.sink.now in
          let after = g.K.Sink.written c.show_frame.new.sink in
          let P : Bool → Type 0 = λ b. StepAnswer r f (Progress r (f + 1) 0 c.show_frame.new.frame left' before after) left' before after (Ok b) in
          let place = first_packet c.args.span.head c.args.slots f _ _ _ c.from.ensures c.from-in-loop-number.ensures c.from-in-loop-number-2.ensures in
          subst P c.in-Ok-true.field-0-test (c.in-Ok-true.ensures.answer input c.args.span.limit c.args.span.head before c.loop-number-test.true place (now.told input found)));
    }

pub returns-clause-answer : goal.returns-clause-answer
returns-clause-answer g c = λ input found.
    let r = showing_run c.args.slots input c.args.span.limit c.args.span.head in
    let frame = c.loop-number.frame in
    let left = g.H.Shelf.left c.loop-number.shelf seats.In in
    let before = g.K.Sink.written c.args.sink.now in
    let now = g.K.Sink.written c.loop-number.sink in
    let end : c.loop-number.number ≡ c.args.span.limit = omega (arith, c.loop-number-test.false, c.loop-number.auto.number-end) in
    let none : c.loop-number.held ≡ 0 = c.loop-number.invariant.held_later (omega (arith, end, c.requires.some)) in
    let so_far = c.loop-number.invariant.told input found in
    let here : Progress r c.args.span.limit 0 frame left before now = subst (λ h. Progress r c.args.span.limit h frame left before now) none (subst (λ n. Progress r n c.loop-number.held frame left before now) end so_far) in
    c.end_at_limit.ensures.answer r frame before now refl (λ _. c.requires.slots) here
