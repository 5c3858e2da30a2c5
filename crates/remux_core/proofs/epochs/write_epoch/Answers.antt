use Rattle.std.proofs.Common.{◌≡◌, ℕ, ◌∙◌, length, subst, arith}
use Rattle.std.proofs.lemmas.Result.{err_from_is_err_and}
use Rattle.edge_io.specs.Causes.{Rose}
use Rattle.remux_core.specs.Multiplex.{packet_count}
use Rattle.remux_core.specs.Answers.{remux_kind}
use Rattle.remux_core.specs.Epoch.{Progress}
use Rattle.remux_core.specs.Reading.{FrameRead}
use Rattle.remux_core.proofs.EpochSteps.{fault_after}
use Rattle.remux_core.proofs.Made.{made_of_read, frame_fits, wrote_all, wrote_some}
use Rattle.remux_core.proofs.Places.{frame_count-least}
use Rattle.remux_core.proofs.Progress.{next, fault_answer, write_fault}
use Rattle.remux_core.proofs.epochs.write_epoch.Goals as goal

pub returns-in_err-read_frame-clause-answer : goal.returns-in_err-read_frame-clause-answer
returns-in_err-read_frame-clause-answer g c = λ input limit before few start.
    let so_far = c.loop-frame.invariant.told input limit before few start in
    let failed = err_from_is_err_and c.from_residual.result c.from_residual.ensures.1 in
    rw (failed.1, failed.2) (fault_answer c.args.plan.now input limit c.loop-frame.frame c.loop-frame.buffers.inputs (g.H.Shelf.left c.loop-frame.shelf) (g.H.Shelf.left c.read_frame.new.shelf) before (g.K.Sink.written c.loop-frame.sink)
    c.in_err-read_frame.field-0.0 (remux_kind c.in_err-read_frame.field-0.0) so_far (omega (arith, few)) (c.in_err-read_frame.ensures.answer input limit (omega (arith, few)) so_far.ready))

pub returns-in_err-read_frame-clause-cause : goal.returns-in_err-read_frame-clause-cause
returns-in_err-read_frame-clause-cause g c =
    let failed = err_from_is_err_and c.from_residual.result c.from_residual.ensures.1 in
    rw (failed.1, failed.2) (fault_after c.args.plan.now (g.H.Shelf.faults c.args.shelf.now) (g.H.Shelf.faults c.loop-frame.shelf) (g.H.Shelf.faults c.read_frame.new.shelf) (g.K.Sink.faults c.args.sink.now) (g.K.Sink.faults c.loop-frame.sink) (g.K.Sink.faults c.loop-frame.sink)
    (remux_kind c.in_err-read_frame.field-0.0) c.loop-frame.invariant.shelf_kept c.loop-frame.invariant.sink_kept (c.in_err-read_frame.ensures.cause (g.K.Sink.faults c.loop-frame.sink)))

pub returns-in_err-read_frame-clause-reached : goal.returns-in_err-read_frame-clause-reached
returns-in_err-read_frame-clause-reached g c =
    let failed = err_from_is_err_and c.from_residual.result c.from_residual.ensures.1 in
    rw (failed.1, failed.2) (c.in_err-read_frame.ensures.reached (g.K.Sink.room c.args.sink.now) (g.K.Sink.written c.loop-frame.sink))

pub write_frame-requires-clause-size : goal.write_frame-requires-clause-size
write_frame-requires-clause-size g c =
    frame_fits c.args.plan.now c.args.order.now c.loop-frame.frame (length c.deref_mut.result.now) (c.requires.order c.loop-frame.frame (omega arith) (omega arith))
    (let len = c.deref_mut.ensures.len in let size = c.loop-frame.invariant.size in let room = c.requires.size in omega (arith, len, size, room))

pub returns-in-Err-clause-answer : goal.returns-in-Err-clause-answer
returns-in-Err-clause-answer g c = λ input limit before few start.
    let left' = g.H.Shelf.left c.read_frame.new.shelf in
    let j = c.read_frame.new.inputs in
    let p = c.args.plan.now in
    let so_far = c.loop-frame.invariant.told input limit before few start in
    let read : FrameRead p input limit c.loop-frame.frame j left' = c.in_ok-read_frame.ensures.answer input limit (omega (arith, few)) so_far.ready in
    let least = frame_count-least p (packet_count input) in
    let failed = c.in-Err.ensures.some in
    let made = made_of_read p c.args.order.now input c.loop-frame.frame j c.packets_of-packets.result (c.requires.order c.loop-frame.frame (omega arith) (omega arith)) c.packets_of-packets.ensures.bytes read.read.each in
    write_fault p input limit c.loop-frame.frame failed.0 c.loop-frame.buffers.inputs j (g.H.Shelf.left c.loop-frame.shelf) left' before (g.K.Sink.written c.loop-frame.sink) (g.K.Sink.written c.write_frame.new.sink)
    (record { so_far = so_far; read = read }) (omega (arith, least)) (wrote_some _ _ failed.0 _ _ made failed.1 failed.2)

pub returns-in-Err-clause-cause : goal.returns-in-Err-clause-cause
returns-in-Err-clause-cause g c =
    ((c.in_ok-read_frame.ensures.cause 0).0 ∙ c.loop-frame.invariant.shelf_kept, subst (λ (n : ℕ). Rose n (g.K.Sink.faults c.write_frame.new.sink)) c.loop-frame.invariant.sink_kept c.in-Err.ensures.cause.failed)

pub loop-frame-preserved : goal.loop-frame-preserved
loop-frame-preserved g c = record {
  stands = c.in_ok-read_frame.ensures.stands;
  size = c.loop-frame.invariant.size;
  told = λ input limit before few start. (
      let left' = g.H.Shelf.left c.read_frame.new.shelf in
      let j = c.read_frame.new.inputs in
      let p = c.args.plan.now in
      let so_far = c.loop-frame.invariant.told input limit before few start in
      let read : FrameRead p input limit c.loop-frame.frame j left' = c.in_ok-read_frame.ensures.answer input limit (omega (arith, few)) so_far.ready in
      let least = frame_count-least p (packet_count input) in
      let made = made_of_read p c.args.order.now input c.loop-frame.frame j c.packets_of-packets.result (c.requires.order c.loop-frame.frame (omega arith) (omega arith)) c.packets_of-packets.ensures.bytes read.read.each in
      next p input limit c.loop-frame.frame c.loop-frame.buffers.inputs j (g.H.Shelf.left c.loop-frame.shelf) left' before (g.K.Sink.written c.loop-frame.sink) (g.K.Sink.written c.write_frame.new.sink)
      (record { so_far = so_far; read = read }) (omega (arith, least)) (wrote_all _ _ _ _ made c.in-Ok.ensures.ok));
  room = c.in-Ok.ensures.room ∙ c.loop-frame.invariant.room;
  still_open = c.in_ok-read_frame.ensures.still_open ∙ c.loop-frame.invariant.still_open;
  shelf_kept = (c.in_ok-read_frame.ensures.cause 0).0 ∙ c.loop-frame.invariant.shelf_kept;
  sink_kept = c.in-Ok.ensures.cause.kept ∙ c.loop-frame.invariant.sink_kept;
}

pub returns-clause-answer : goal.returns-clause-answer
returns-clause-answer g c = λ input limit before few start.
    let end : c.loop-frame.frame ≡ c.args.end = omega arith in
    subst (λ (f : ℕ). Progress c.args.plan.now input limit f c.loop-frame.buffers.inputs (g.H.Shelf.left c.loop-frame.shelf) before (g.K.Sink.written c.loop-frame.sink)) end (c.loop-frame.invariant.told input limit before few start)
