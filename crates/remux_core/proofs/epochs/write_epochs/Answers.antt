use Rattle.std.proofs.Common.{◌≡◌, ℕ, ◌∙◌, min, sym, ap, subst, arith, inr}
use Rattle.std.proofs.lemmas.Result.{err_from_is_err_and}
use Rattle.isdbt_base.proofs.EpochLaws.{in_last}
use Rattle.remux_core.specs.Epoch.{Progress}
use Rattle.remux_core.proofs.EpochSteps.{sent-same, there-before, stop-begins, stop-early}
use Rattle.remux_core.proofs.Progress.{no_memory_at, too_long}
use Rattle.remux_core.proofs.epochs.write_epochs.Goals as goal

pub returns-then-start-limit-clause-answer : goal.returns-then-start-limit-clause-answer
returns-then-start-limit-clause-answer g c = λ input before start.
    let left = g.H.Shelf.left c.loop-end.shelf in
    let now = g.K.Sink.written c.loop-end.sink in
    let i = c.loop-end.buffers.inputs in
    let p = c.args.plan.now in
    let here : c.loop-end.start ≡ c.args.limit = c.if-start-limit.true in
    let so_far = subst (λ (f : ℕ). Progress p input c.args.limit f i left before now) here (c.loop-end.invariant.told input before start) in
    let there = there-before p input c.loop-end.start c.in-Some.end c.requires.plan (ap (λ at. at.end) (sym c.at.ensures.value) ∙ c.in-Some.is) in
    too_long p input c.args.limit i left before now so_far (omega (arith, there, here))

pub returns-in_default-order_at-clause-answer : goal.returns-in_default-order_at-clause-answer
returns-in_default-order_at-clause-answer g c = λ input before start.
    let within = c.loop-end.invariant.within in
    let ne = c.if-start-limit.false in
    no_memory_at c.args.plan.now input c.args.limit c.loop-end.start c.loop-end.buffers.inputs (g.H.Shelf.left c.loop-end.shelf) before (g.K.Sink.written c.loop-end.sink) (c.loop-end.invariant.told input before start) (c.loop-end.invariant.begins (omega (arith, within, ne)))

pub write_epoch-requires-clause-order : goal.write_epoch-requires-clause-order
write_epoch-requires-clause-order g c = λ f from below.
    let stop = c.min-stop.ensures in
    c.in-Ok.ensures ∙ sym (sent-same c.args.plan.now c.loop-end.start f c.in-Some.end c.requires.plan (ap (λ at. at.end) (sym c.at.ensures.value) ∙ c.in-Some.is) from (omega (arith, stop, below)))

pub write_epoch-requires-clause-early : goal.write_epoch-requires-clause-early
write_epoch-requires-clause-early g c = stop-early c.args.plan.now c.loop-end.start c.in-Some.end c.args.limit c.min-stop.result c.requires.plan (ap (λ at. at.end) (sym c.at.ensures.value) ∙ c.in-Some.is) c.min-stop.ensures

pub returns-in_err-write_epoch-clause-answer : goal.returns-in_err-write_epoch-clause-answer
returns-in_err-write_epoch-clause-answer g c = λ input before start.
    let stop = c.min-stop.ensures in
    let failed = err_from_is_err_and c.from_residual.result c.from_residual.ensures.1 in
    rw (failed.1, failed.2) (c.in_err-write_epoch.ensures.answer input c.args.limit before (omega (arith, stop)) (c.loop-end.invariant.told input before start))

pub loop-end-preserved : goal.loop-end-preserved
loop-end-preserved g c =
    let stop : c.min-stop.result ≡ min c.in-Some.end c.args.limit = c.min-stop.ensures in
    record {
      within = omega (arith, stop);
      early = stop-early c.args.plan.now c.loop-end.start c.in-Some.end c.args.limit c.min-stop.result c.requires.plan (ap (λ at. at.end) (sym c.at.ensures.value) ∙ c.in-Some.is) stop;
      begins = λ less. inr (stop-begins c.args.plan.now c.loop-end.start c.in-Some.end c.args.limit c.min-stop.result c.requires.plan (ap (λ at. at.end) (sym c.at.ensures.value) ∙ c.in-Some.is) stop less);
      stands = c.in_ok-write_epoch.ensures.stands;
      size = c.in_ok-write_epoch.ensures.size ∙ c.loop-end.invariant.size;
      told = λ input before start. c.in_ok-write_epoch.ensures.answer input c.args.limit before (omega (arith, stop)) (c.loop-end.invariant.told input before start);
      room = c.in_ok-write_epoch.ensures.room ∙ c.loop-end.invariant.room;
      still_open = c.in_ok-write_epoch.ensures.still_open ∙ c.loop-end.invariant.still_open;
      shelf_kept = c.in_ok-write_epoch.ensures.cause.0 ∙ c.loop-end.invariant.shelf_kept;
      sink_kept = c.in_ok-write_epoch.ensures.cause.1 ∙ c.loop-end.invariant.sink_kept;
    }

pub returns-clause-last : goal.returns-clause-last
returns-clause-last g c =
    let past = in_last c.args.plan.now c.loop-end.start c.requires.plan (ap (λ at. at.end) (sym c.at.ensures.value) ∙ c.in_default.is) in
    let early = c.loop-end.invariant.early in
    omega (arith, past, early)
