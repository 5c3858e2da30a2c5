use Rattle.std.proofs.Common.{◌≡◌, ◌⊎◌, ℕ, true, ◌∙◌, ◌+◌, sym, ap, subst, arith}
use Rattle.isdbt_base.specs.Epochs.{begins_later}
use Rattle.isdbt_base.specs.Numbers.{greatest_delay}
use Rattle.remux_core.specs.Epoch.{DataDone}
use Rattle.remux_core.proofs.Draining.{no_data}
use Rattle.remux_core.proofs.EpochSteps.{sent-last, delay-last, last-begins, cause_after}
use Rattle.remux_core.proofs.Progress.{no_memory_at}
use Rattle.remux_core.proofs.last_epoch.write_last.Goals as goal

pub returns-in_default-clause-answer : goal.returns-in_default-clause-answer
returns-in_default-clause-answer g c = λ input before start.
    let p = c.args.plan.now in
    no_memory_at p input c.args.limit c.args.start c.args.buffers.now.inputs (g.H.Shelf.left c.args.shelf.now) before (g.K.Sink.written c.args.sink.now) start
    (subst (λ (f : ℕ). (f ≡ 0) ⊎ (begins_later p f ≡ true)) (sym c.requires.last) (last-begins p c.requires.plan))

pub write_data-requires-clause-order : goal.write_data-requires-clause-order
write_data-requires-clause-order g c = c.in-Ok.ensures ∙ sent-last c.args.plan.now c.args.start c.requires.plan (let first = c.requires.last in omega (arith, first))

pub returns-then-frames-start-clause-answer : goal.returns-then-frames-start-clause-answer
returns-then-frames-start-clause-answer g c = λ input before start.
    let left = g.H.Shelf.left c.write_data.new.shelf in
    let now = g.K.Sink.written c.write_data.new.sink in
    let p = c.args.plan.now in
    let frames = c.in_ok-frames.frames in
    let done : DataDone p input c.args.limit frames before now left = c.in_ok-frames.ensures.answer input before start in
    no_data p input c.args.limit frames before now left c.requires.plan (λ x none. (start.ready.unused x none).1) (c.if-frames-start.true ∙ c.requires.last) done

pub drain-requires-clause-order : goal.drain-requires-clause-order
drain-requires-clause-order g c = c.in-Ok.ensures ∙ sent-last c.args.plan.now c.args.start c.requires.plan (let first = c.requires.last in omega (arith, first))

pub drain-requires-clause-end : goal.drain-requires-clause-end
drain-requires-clause-end g c =
    ap (λ n. c.in_ok-frames.frames + n)
    (c.max_delay.ensures.value ∙ ap (λ at. greatest_delay at.mode at.setting) c.at-at.ensures.value ∙ delay-last c.args.plan.now c.args.start c.requires.plan (let first = c.requires.last in omega (arith, first)))

pub returns-clause-answer : goal.returns-clause-answer
returns-clause-answer g c = λ input before start.
    c.drain.ensures.answer input before (g.H.Shelf.left c.write_data.new.shelf) (λ x none. (start.ready.unused x none).1) (c.in_ok-frames.ensures.answer input before start)

pub returns-clause-cause : goal.returns-clause-cause
returns-clause-cause g c =
    cause_after c.args.plan.now (g.H.Shelf.faults c.args.shelf.now) (g.H.Shelf.faults c.write_data.new.shelf) (g.H.Shelf.faults c.write_data.new.shelf) (g.K.Sink.faults c.args.sink.now) (g.K.Sink.faults c.write_data.new.sink) (g.K.Sink.faults c.drain.new.sink)
    c.drain.result c.in_ok-frames.ensures.cause.0 c.in_ok-frames.ensures.cause.1 (c.drain.ensures.cause (g.H.Shelf.faults c.write_data.new.shelf))
