use Rattle.std.proofs.Common.{ℕ, ◌∙◌, sym, subst}
use Rattle.std.proofs.lemmas.Result.{err_from_is_err_and}
use Rattle.remux_core.specs.Epoch.{Progress}
use Rattle.remux_core.proofs.EpochSteps.{cause_after}
use Rattle.remux_core.proofs.Progress.{begin}
use Rattle.remux_core.proofs.Standing.{Opened, open-used, open-unused, stands-open}
use Rattle.remux_core.proofs.remultiplex.remux.Goals as goal

pub write_epochs-requires-clause-stands : goal.write_epochs-requires-clause-stands
write_epochs-requires-clause-stands g c =
    let opened : Opened c.args.plan.now c.in-Ok.inputs =
    record { plan = c.acceptance_law.ensures; seats = c.in-Ok.ensures.seats; room = c.in-Ok.ensures.room; small = c.in-Ok.ensures.small; none = c.in-Ok.ensures.none; used = c.in-Ok.ensures.used; unused = c.in-Ok.ensures.unused } in
    stands-open c.args.plan.now c.in-Ok.inputs (g.H.Shelf.is_open c.args.shelf.now) opened c.requires.«open»

pub returns-in_err-start-clause-answer : goal.returns-in_err-start-clause-answer
returns-in_err-start-clause-answer g c = λ input tells.
    let before = g.K.Sink.written c.args.sink.now in
    let p = c.args.plan.now in
    let i = c.in-Ok.inputs in
    let opened : Opened p i =
    record { plan = c.acceptance_law.ensures; seats = c.in-Ok.ensures.seats; room = c.in-Ok.ensures.room; small = c.in-Ok.ensures.small; none = c.in-Ok.ensures.none; used = c.in-Ok.ensures.used; unused = c.in-Ok.ensures.unused } in
    let start = begin p input c.args.limit i (g.H.Shelf.left c.args.shelf.now) before (λ x some. open-used p i x opened some) (λ x none. open-unused p i x opened none) tells in
    let failed = err_from_is_err_and c.from_residual.result c.from_residual.ensures.1 in
    rw (failed.1, failed.2) (c.in_err-start.ensures.answer input before start)

pub returns-then-start-limit-clause-answer : goal.returns-then-start-limit-clause-answer
returns-then-start-limit-clause-answer g c = λ input tells.
    let before = g.K.Sink.written c.args.sink.now in
    let p = c.args.plan.now in
    let i = c.in-Ok.inputs in
    let opened : Opened p i =
    record { plan = c.acceptance_law.ensures; seats = c.in-Ok.ensures.seats; room = c.in-Ok.ensures.room; small = c.in-Ok.ensures.small; none = c.in-Ok.ensures.none; used = c.in-Ok.ensures.used; unused = c.in-Ok.ensures.unused } in
    let start = begin p input c.args.limit i (g.H.Shelf.left c.args.shelf.now) before (λ x some. open-used p i x opened some) (λ x none. open-unused p i x opened none) tells in
    let so_far = c.in_ok-start.ensures.answer input before start in
    c.ask.ensures.answer p input before (g.K.Sink.written c.write_epochs.new.sink) c.acceptance_law.ensures (sym c.in_ok-start.ensures.last ∙ c.if-start-limit.true)
    (subst (λ (f : ℕ). Progress p input c.args.limit f c.write_epochs.new.buffers.inputs (g.H.Shelf.left c.write_epochs.new.shelf) before (g.K.Sink.written c.write_epochs.new.sink)) c.if-start-limit.true so_far)

pub returns-then-start-limit-clause-cause : goal.returns-then-start-limit-clause-cause
returns-then-start-limit-clause-cause g c =
    cause_after c.args.plan.now (g.H.Shelf.faults c.args.shelf.now) (g.H.Shelf.faults c.write_epochs.new.shelf) (g.H.Shelf.faults c.ask.new.shelf) (g.K.Sink.faults c.args.sink.now) (g.K.Sink.faults c.write_epochs.new.sink) (g.K.Sink.faults c.write_epochs.new.sink)
    c.ask.result c.in_ok-start.ensures.cause.0 c.in_ok-start.ensures.cause.1 (c.ask.ensures.cause c.args.plan.now c.in_ok-start.start (g.K.Sink.faults c.write_epochs.new.sink) c.in_ok-start.ensures.stands)

pub returns-then-start-limit-clause-reached : goal.returns-then-start-limit-clause-reached
returns-then-start-limit-clause-reached g c = c.ask.ensures.reached (g.K.Sink.room c.args.sink.now) (g.K.Sink.written c.write_epochs.new.sink)

pub returns-clause-answer : goal.returns-clause-answer
returns-clause-answer g c = λ input tells.
    let before = g.K.Sink.written c.args.sink.now in
    let p = c.args.plan.now in
    let i = c.in-Ok.inputs in
    let opened : Opened p i =
    record { plan = c.acceptance_law.ensures; seats = c.in-Ok.ensures.seats; room = c.in-Ok.ensures.room; small = c.in-Ok.ensures.small; none = c.in-Ok.ensures.none; used = c.in-Ok.ensures.used; unused = c.in-Ok.ensures.unused } in
    let start = begin p input c.args.limit i (g.H.Shelf.left c.args.shelf.now) before (λ x some. open-used p i x opened some) (λ x none. open-unused p i x opened none) tells in
    let so_far = c.in_ok-start.ensures.answer input before start in
    c.write_last.ensures.answer input before so_far
