use Rattle.std.proofs.Common.{◌≡◌, ℕ, ◌∙◌, suc, ◌+◌, ◌-◌, ◌≤◌, length, refl, sym, subst, arith}
use Rattle.std.proofs.lemmas.Result.{err_from_is_err_and}
use Rattle.isdbt_base.specs.Epochs.{last_start}
use Rattle.edge_io.specs.Causes.{Rose}
use Rattle.remux_core.specs.Answers.{remux_kind}
use Rattle.remux_core.specs.Epoch.{Progress}
use Rattle.remux_core.proofs.EpochSteps.{sent-last, fault_after}
use Rattle.remux_core.proofs.Made.{made_of_read, frame_fits, wrote_all, wrote_some}
use Rattle.remux_core.proofs.Progress.{Turn, HadMore, next, fault_answer, write_fault, too_long, some_more, there-next, nothing_more, all_ended, had-next, had-none}
use Rattle.remux_core.proofs.last_epoch.write_data.Goals as goal

pub loop-frame-init : goal.loop-frame-init
loop-frame-init g c = record {
  stands = c.requires.stands;
  size = refl;
  told = λ input before start. (start, subst (HadMore c.args.plan.now input) (sym c.requires.last) (had-none c.args.plan.now input));
  room = refl;
  still_open = refl;
  shelf_kept = refl;
  sink_kept = refl;
}

pub returns-in_err-read_frame-clause-answer : goal.returns-in_err-read_frame-clause-answer
returns-in_err-read_frame-clause-answer g c = λ input before start.
    let so_far = (c.loop-frame.invariant.told input before start).0 in
    let failed = err_from_is_err_and c.from_residual.result c.from_residual.ensures.1 in
    rw (failed.1, failed.2) (fault_answer c.args.plan.now input c.args.limit c.loop-frame.frame c.loop-frame.buffers.inputs (g.H.Shelf.left c.loop-frame.shelf) (g.H.Shelf.left c.read_frame.new.shelf) before (g.K.Sink.written c.loop-frame.sink)
    c.in_err-read_frame.field-0.0 (remux_kind c.in_err-read_frame.field-0.0) so_far (omega arith) (c.in_err-read_frame.ensures.answer input c.args.limit (omega arith) so_far.ready))

pub returns-in_err-read_frame-clause-cause : goal.returns-in_err-read_frame-clause-cause
returns-in_err-read_frame-clause-cause g c =
    let failed = err_from_is_err_and c.from_residual.result c.from_residual.ensures.1 in
    rw (failed.1, failed.2) (fault_after c.args.plan.now (g.H.Shelf.faults c.args.shelf.now) (g.H.Shelf.faults c.loop-frame.shelf) (g.H.Shelf.faults c.read_frame.new.shelf) (g.K.Sink.faults c.args.sink.now) (g.K.Sink.faults c.loop-frame.sink) (g.K.Sink.faults c.loop-frame.sink)
    (remux_kind c.in_err-read_frame.field-0.0) c.loop-frame.invariant.shelf_kept c.loop-frame.invariant.sink_kept (c.in_err-read_frame.ensures.cause (g.K.Sink.faults c.loop-frame.sink)))

pub returns-in_err-read_frame-clause-reached : goal.returns-in_err-read_frame-clause-reached
returns-in_err-read_frame-clause-reached g c =
    let failed = err_from_is_err_and c.from_residual.result c.from_residual.ensures.1 in
    rw (failed.1, failed.2) (c.in_err-read_frame.ensures.reached (g.K.Sink.room c.args.sink.now) (g.K.Sink.written c.loop-frame.sink))

pub write_frame-requires-clause-size : goal.write_frame-requires-clause-size
write_frame-requires-clause-size g c =
    frame_fits c.args.plan.now c.args.order.now c.loop-frame.frame (length c.deref_mut.result.now) (c.requires.order ∙ sym (sent-last c.args.plan.now c.loop-frame.frame c.requires.plan (let first = c.requires.last in omega (arith, first))))
    (let len = c.deref_mut.ensures.len in let size = c.loop-frame.invariant.size in let room = c.requires.size in omega (arith, len, size, room))

pub returns-then-is_empty-clause-answer : goal.returns-then-is_empty-clause-answer
returns-then-is_empty-clause-answer g c = λ input before start.
    let left = g.H.Shelf.left c.loop-frame.shelf in
    let left' = g.H.Shelf.left c.read_frame.new.shelf in
    let mid = g.K.Sink.written c.loop-frame.sink in
    let i = c.loop-frame.buffers.inputs in
    let j = c.read_frame.new.inputs in
    let p = c.args.plan.now in
    let so_far = (c.loop-frame.invariant.told input before start).0 in
    let had = (c.loop-frame.invariant.told input before start).1 in
    let past : last_start p ≤ c.loop-frame.frame = (let first = c.requires.last in omega (arith, first)) in
    let turn : Turn p input c.args.limit c.loop-frame.frame i j left left' before mid =
    record { so_far = so_far; read = c.in_ok-read_frame.ensures.answer input c.args.limit (omega arith) so_far.ready } in
    nothing_more p input c.args.limit c.loop-frame.frame i j left left' before mid c.requires.plan past turn had (c.if-is_empty.ensures.none refl)

pub returns-then-is_empty-clause-cause : goal.returns-then-is_empty-clause-cause
returns-then-is_empty-clause-cause g c = ((c.in_ok-read_frame.ensures.cause 0).0 ∙ c.loop-frame.invariant.shelf_kept, c.loop-frame.invariant.sink_kept)

pub returns-in-Err-clause-answer : goal.returns-in-Err-clause-answer
returns-in-Err-clause-answer g c = λ input before start.
    let left = g.H.Shelf.left c.loop-frame.shelf in
    let left' = g.H.Shelf.left c.read_frame.new.shelf in
    let mid = g.K.Sink.written c.loop-frame.sink in
    let i = c.loop-frame.buffers.inputs in
    let j = c.read_frame.new.inputs in
    let p = c.args.plan.now in
    let so_far = (c.loop-frame.invariant.told input before start).0 in
    let had = (c.loop-frame.invariant.told input before start).1 in
    let past : last_start p ≤ c.loop-frame.frame = (let first = c.requires.last in omega (arith, first)) in
    let turn : Turn p input c.args.limit c.loop-frame.frame i j left left' before mid =
    record { so_far = so_far; read = c.in_ok-read_frame.ensures.answer input c.args.limit (omega arith) so_far.ready } in
    let more = some_more p input c.args.limit c.loop-frame.frame i j left left' before mid turn (c.if-is_empty.ensures.some refl) in
    let there = there-next p input c.loop-frame.frame c.requires.plan past more in
    let made = made_of_read p c.args.order.now input c.loop-frame.frame j c.packets_of-packets.result (c.requires.order ∙ sym (sent-last p c.loop-frame.frame c.requires.plan past)) c.packets_of-packets.ensures.bytes turn.read.read.each in
    let failed = c.in-Err.ensures.some in
    write_fault p input c.args.limit c.loop-frame.frame failed.0 i j left left' before mid (g.K.Sink.written c.write_frame.new.sink) turn (omega (arith, there)) (wrote_some _ _ failed.0 _ _ made failed.1 failed.2)

pub returns-in-Err-clause-cause : goal.returns-in-Err-clause-cause
returns-in-Err-clause-cause g c =
    ((c.in_ok-read_frame.ensures.cause 0).0 ∙ c.loop-frame.invariant.shelf_kept, subst (λ (n : ℕ). Rose n (g.K.Sink.faults c.write_frame.new.sink)) c.loop-frame.invariant.sink_kept c.in-Err.ensures.cause.failed)

pub returns-then-have_ended-clause-answer : goal.returns-then-have_ended-clause-answer
returns-then-have_ended-clause-answer g c = λ input before start.
    let left = g.H.Shelf.left c.loop-frame.shelf in
    let left' = g.H.Shelf.left c.read_frame.new.shelf in
    let mid = g.K.Sink.written c.loop-frame.sink in
    let after = g.K.Sink.written c.write_frame.new.sink in
    let i = c.loop-frame.buffers.inputs in
    let j = c.read_frame.new.inputs in
    let p = c.args.plan.now in
    let so_far = (c.loop-frame.invariant.told input before start).0 in
    let had = (c.loop-frame.invariant.told input before start).1 in
    let past : last_start p ≤ c.loop-frame.frame = (let first = c.requires.last in omega (arith, first)) in
    let turn : Turn p input c.args.limit c.loop-frame.frame i j left left' before mid =
    record { so_far = so_far; read = c.in_ok-read_frame.ensures.answer input c.args.limit (omega arith) so_far.ready } in
    let more = some_more p input c.args.limit c.loop-frame.frame i j left left' before mid turn (c.if-is_empty.ensures.some refl) in
    let there = there-next p input c.loop-frame.frame c.requires.plan past more in
    let made = made_of_read p c.args.order.now input c.loop-frame.frame j c.packets_of-packets.result (c.requires.order ∙ sym (sent-last p c.loop-frame.frame c.requires.plan past)) c.packets_of-packets.ensures.bytes turn.read.read.each in
    let further = next p input c.args.limit c.loop-frame.frame i j left left' before mid after turn (omega (arith, there)) (wrote_all _ _ _ _ made c.in-Ok.ensures.ok) in
    all_ended p input c.args.limit (c.loop-frame.frame + 1) j left' before after c.requires.plan (omega (arith, past)) further (had-next p input c.loop-frame.frame past more) (c.if-have_ended.ensures.all refl)

pub returns-then-have_ended-clause-cause : goal.returns-then-have_ended-clause-cause
returns-then-have_ended-clause-cause g c =
    ((c.in_ok-read_frame.ensures.cause 0).0 ∙ c.loop-frame.invariant.shelf_kept, c.in-Ok.ensures.cause.kept ∙ c.loop-frame.invariant.sink_kept)

pub loop-frame-preserved : goal.loop-frame-preserved
loop-frame-preserved g c = record {
  stands = c.in_ok-read_frame.ensures.stands;
  size = c.loop-frame.invariant.size;
  told = λ input before start. (
      let left = g.H.Shelf.left c.loop-frame.shelf in
      let left' = g.H.Shelf.left c.read_frame.new.shelf in
      let mid = g.K.Sink.written c.loop-frame.sink in
      let i = c.loop-frame.buffers.inputs in
      let j = c.read_frame.new.inputs in
      let p = c.args.plan.now in
      let so_far = (c.loop-frame.invariant.told input before start).0 in
      let had = (c.loop-frame.invariant.told input before start).1 in
      let past : last_start p ≤ c.loop-frame.frame = (let first = c.requires.last in omega (arith, first)) in
      let turn : Turn p input c.args.limit c.loop-frame.frame i j left left' before mid =
      record { so_far = so_far; read = c.in_ok-read_frame.ensures.answer input c.args.limit (omega arith) so_far.ready } in
      let more = some_more p input c.args.limit c.loop-frame.frame i j left left' before mid turn (c.if-is_empty.ensures.some refl) in
      let there = there-next p input c.loop-frame.frame c.requires.plan past more in
      let made = made_of_read p c.args.order.now input c.loop-frame.frame j c.packets_of-packets.result (c.requires.order ∙ sym (sent-last p c.loop-frame.frame c.requires.plan past)) c.packets_of-packets.ensures.bytes turn.read.read.each in
      let further = next p input c.args.limit c.loop-frame.frame i j left left' before mid (g.K.Sink.written c.write_frame.new.sink) turn (omega (arith, there)) (wrote_all _ _ _ _ made c.in-Ok.ensures.ok) in
      (further, had-next p input c.loop-frame.frame past more));
  room = c.in-Ok.ensures.room ∙ c.loop-frame.invariant.room;
  still_open = c.in_ok-read_frame.ensures.still_open ∙ c.loop-frame.invariant.still_open;
  shelf_kept = (c.in_ok-read_frame.ensures.cause 0).0 ∙ c.loop-frame.invariant.shelf_kept;
  sink_kept = c.in-Ok.ensures.cause.kept ∙ c.loop-frame.invariant.sink_kept;
}

pub returns-clause-answer : goal.returns-clause-answer
returns-clause-answer g c = λ input before start.
    let left = g.H.Shelf.left c.loop-frame.shelf in
    let mid = g.K.Sink.written c.loop-frame.sink in
    let i = c.loop-frame.buffers.inputs in
    let p = c.args.plan.now in
    let end : c.loop-frame.frame ≡ c.args.limit = omega arith in
    let first = c.requires.last in
    let some = c.requires.some in
    let said = c.loop-frame.invariant.told input before start in
    let so_far = subst (λ (f : ℕ). Progress p input c.args.limit f i left before mid) end said.0 in
    let e : c.loop-frame.frame ≡ last_start p + suc (c.loop-frame.frame - suc (last_start p)) = omega (arith, end, first, some) in
    let there = there-next p input (last_start p + (c.loop-frame.frame - suc (last_start p))) c.requires.plan (omega arith) (said.1 (c.loop-frame.frame - suc (last_start p)) e) in
    too_long p input c.args.limit i left before mid so_far (omega (arith, there, e, end))
