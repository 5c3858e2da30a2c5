use Rattle.std.proofs.Common.{◌≡◌, ℕ, ◌∙◌, length, refl, sym, subst, arith}
use Rattle.edge_io.specs.FrameAnswers.{Passed, Wrote}
use Rattle.remux_core.specs.Answers.{remux_command}
use Rattle.remux_core.proofs.Draining.{drained_more, drain_failed, drain_too_long, drained_all, behind_data}
use Rattle.remux_core.proofs.EpochSteps.{sent-last}
use Rattle.remux_core.proofs.Made.{made_of_none, frame_fits, wrote_all, wrote_some}
use Rattle.remux_core.proofs.last_epoch.drain.Goals as goal

pub loop-frame-init : goal.loop-frame-init
loop-frame-init g c = record { within = c.requires.frames; size = refl; told = λ input before left none done. (done.passed, done.written); room = refl; kept = refl }

pub returns-then-frame-limit-clause-answer : goal.returns-then-frame-limit-clause-answer
returns-then-frame-limit-clause-answer g c = λ input before left none done.
    let mid = g.K.Sink.written c.loop-frame.sink in
    let p = c.args.plan.now in
    let here : c.loop-frame.frame ≡ c.args.limit = omega arith in
    drain_too_long p input c.args.limit c.args.frames c.args.end before (g.K.Sink.written c.args.sink.now) mid left (record { plan = c.requires.plan; unused = none; some = c.requires.some; end_is = c.requires.end; done = done }) (omega arith) (omega arith)
    (subst (λ (f : ℕ). Passed (remux_command p input c.args.limit) f × Wrote (remux_command p input c.args.limit) f before mid) here (c.loop-frame.invariant.told input before left none done))

pub write_frame-requires-clause-size : goal.write_frame-requires-clause-size
write_frame-requires-clause-size g c =
    frame_fits c.args.plan.now c.args.order.now c.loop-frame.frame (length c.loop-frame.out) (c.requires.order ∙ sym (sent-last c.args.plan.now c.loop-frame.frame c.requires.plan (let first = c.requires.some in omega (arith, first))))
    (let size = c.loop-frame.invariant.size in let room = c.requires.size in omega (arith, size, room))

pub returns-in-Err-clause-answer : goal.returns-in-Err-clause-answer
returns-in-Err-clause-answer g c = λ input before left none done.
    let old = g.K.Sink.written c.args.sink.now in
    let p = c.args.plan.now in
    let failed = c.in-Err.ensures.some in
    let made = made_of_none p c.args.order.now input c.loop-frame.frame c.no_packets.result (c.requires.order ∙ sym (sent-last p c.loop-frame.frame c.requires.plan (let first = c.requires.some in omega (arith, first))))
    (behind_data p input c.args.limit c.args.frames c.loop-frame.frame before old left done (omega arith)) c.no_packets.ensures.bytes in
    drain_failed p input c.args.limit c.args.frames c.args.end c.loop-frame.frame failed.0 before old (g.K.Sink.written c.loop-frame.sink) (g.K.Sink.written c.write_frame.new.sink) left (record { plan = c.requires.plan; unused = none; some = c.requires.some; end_is = c.requires.end; done = done }) (omega arith) (omega arith) (omega arith)
    (c.loop-frame.invariant.told input before left none done) (wrote_some _ _ failed.0 _ _ made failed.1 failed.2)

pub loop-frame-preserved : goal.loop-frame-preserved
loop-frame-preserved g c = record {
  within = omega arith;
  size = c.in-Ok.ensures.size ∙ c.loop-frame.invariant.size;
  told = λ input before left none done. (
      let old = g.K.Sink.written c.args.sink.now in
      let p = c.args.plan.now in
      let made = made_of_none p c.args.order.now input c.loop-frame.frame c.no_packets.result (c.requires.order ∙ sym (sent-last p c.loop-frame.frame c.requires.plan (let first = c.requires.some in omega (arith, first))))
      (behind_data p input c.args.limit c.args.frames c.loop-frame.frame before old left done (omega arith)) c.no_packets.ensures.bytes in
      drained_more p input c.args.limit c.args.frames c.args.end c.loop-frame.frame before old (g.K.Sink.written c.loop-frame.sink) (g.K.Sink.written c.write_frame.new.sink) left (record { plan = c.requires.plan; unused = none; some = c.requires.some; end_is = c.requires.end; done = done }) (omega arith) (omega arith) (omega arith)
      (c.loop-frame.invariant.told input before left none done) (wrote_all _ _ _ _ made c.in-Ok.ensures.ok));
  room = c.in-Ok.ensures.room ∙ c.loop-frame.invariant.room;
  kept = c.in-Ok.ensures.cause.kept ∙ c.loop-frame.invariant.kept;
}

pub returns-clause-answer : goal.returns-clause-answer
returns-clause-answer g c = λ input before left none done.
    let mid = g.K.Sink.written c.loop-frame.sink in
    let p = c.args.plan.now in
    let end : c.loop-frame.frame ≡ c.args.end = (let all = c.requires.end in omega (arith, all)) in
    drained_all p input c.args.limit c.args.frames c.args.end before (g.K.Sink.written c.args.sink.now) mid left (record { plan = c.requires.plan; unused = none; some = c.requires.some; end_is = c.requires.end; done = done })
    (subst (λ (f : ℕ). Passed (remux_command p input c.args.limit) f × Wrote (remux_command p input c.args.limit) f before mid) end (c.loop-frame.invariant.told input before left none done))
