use Rattle.std.proofs.Common.{◌≡◌, ◌+◌, ◌<◌, vec_items, false, arith, ap, sym, ◌∙◌, subst}
use Rattle.isdbt_base.specs.Epochs.{begins_later}
use Rattle.isdbt_base.specs.Plans.{Schedule}
use Rattle.sample.specs.SamplePlan.{sample_frames}
use Rattle.sample.specs.Tallies.{sample_sent}
use Rattle.sample.specs.Inputs.{number_of}
use Rattle.sample.specs.Chain.{IsOfFrame, StandsAt}
use Rattle.sample.specs.Counts.{AreBounded, AreCounted}
use Rattle.sample.proofs.SentFrames.{stream-size, part-mode, part-guard, part-size, part-codable, part-frame, received-by, codable-out}
use Rattle.sample.proofs.running.run_frames.Goals as goal

pub loop-frame-init : goal.loop-frame-init
loop-frame-init c = record {
  of = λ less. c.requires.of;
  stands = λ less. c.requires.stands;
  room = c.requires.room;
  bounds = c.requires.bounds;
  counted = λ counted. counted;
}

pub slice_bounds-broadcast-end : goal.slice_bounds-broadcast-end
slice_bounds-broadcast-end c =
    let size = stream-size (number_of c.args.sending.inputs.now) c.args.sending.frames.now c.requires.frames in
    let less = c.loop-frame-test.true in
    let most = c.requires.most in
    omega (arith, size, less, most)

below : (c : goal.After-pass-arg-in-loop-frame-1) → c.loop-frame.frame < 15
below c = (let less = c.loop-frame-test.true in let most = c.requires.most in omega (arith, less, most))

pub pass-requires-clause-of : goal.pass-requires-clause-of
pass-requires-clause-of c = subst (λ (q : Schedule). IsOfFrame q c.loop-frame.frame c.loop-frame.chain) (sym c.requires.plan) (c.loop-frame.invariant.of c.loop-frame-test.true)

pub pass-requires-clause-mode : goal.pass-requires-clause-mode
pass-requires-clause-mode c = part-mode c.args.sending.plan.now c.requires.plan (number_of c.args.sending.inputs.now) c.loop-frame.frame (below c) c.args.sending.frames.now c.requires.frames

pub pass-requires-clause-guard : goal.pass-requires-clause-guard
pass-requires-clause-guard c = part-guard c.args.sending.plan.now c.requires.plan (number_of c.args.sending.inputs.now) c.loop-frame.frame (below c) c.args.sending.frames.now c.requires.frames

pub pass-requires-clause-size : goal.pass-requires-clause-size
pass-requires-clause-size c = part-size c.args.sending.plan.now c.requires.plan (number_of c.args.sending.inputs.now) c.loop-frame.frame (below c) c.args.sending.frames.now c.requires.frames

pub pass-requires-clause-codable : goal.pass-requires-clause-codable
pass-requires-clause-codable c = part-codable c.args.sending.plan.now c.requires.plan (number_of c.args.sending.inputs.now) c.loop-frame.frame (below c) c.args.sending.frames.now c.requires.frames

pub count_frame-requires-clause-codable : goal.count_frame-requires-clause-codable
count_frame-requires-clause-codable c =
    let p = c.args.sending.plan.now in
    let number = number_of c.args.sending.inputs.now in
    let f = c.loop-frame.frame in
    let less : f < 15 = (let low = c.loop-frame-test.true in let most = c.requires.most in omega (arith, low, most)) in
    let stands = subst (λ (q : Schedule). StandsAt q (sample_sent number) f c.loop-frame.chain) (sym c.requires.plan) (c.loop-frame.invariant.stands c.loop-frame-test.true) in
    codable-out number f (vec_items c.pass.new.buffers.out)
    (received-by p number f (vec_items c.pass.new.buffers.out) c.requires.plan
    (c.pass.ensures.given (sample_sent number) sample_frames stands (part-frame p c.requires.plan number f less c.args.sending.frames.now c.requires.frames)))

pub loop-frame-preserved : goal.loop-frame-preserved
loop-frame-preserved c =
    let p = c.args.sending.plan.now in
    let number = number_of c.args.sending.inputs.now in
    let f = c.loop-frame.frame in
    let now = c.loop-frame.invariant in
    let less : f < 15 = (let low = c.loop-frame-test.true in let most = c.requires.most in omega (arith, low, most)) in
    let stands = subst (λ (q : Schedule). StandsAt q (sample_sent number) f c.loop-frame.chain) (sym c.requires.plan) (now.stands c.loop-frame-test.true) in
    let frame = part-frame p c.requires.plan number f less c.args.sending.frames.now c.requires.frames in
    let begins : f + 1 < c.args.span.end → begins_later p (f + 1) ≡ false = λ next.
    ap (λ (q : Schedule). begins_later q (f + 1)) c.requires.plan ∙ c.requires.epoch (f + 1) (let from = c.loop-frame.auto.frame in omega (arith, from)) next in
    record {
      of = λ next. subst (λ (q : Schedule). IsOfFrame q (f + 1) c.pass.new.self) c.requires.plan (c.pass.ensures.of (begins next));
      stands = λ next. subst (λ (q : Schedule). StandsAt q (sample_sent number) (f + 1) c.pass.new.self) c.requires.plan (c.pass.ensures.stands (sample_sent number) stands frame (begins next));
      room = c.count_frame.ensures.room;
      bounds = c.count_frame.ensures.bounds;
      counted = λ start. c.count_frame.ensures.counted (received-by p number f (vec_items c.pass.new.buffers.out) c.requires.plan (c.pass.ensures.given (sample_sent number) sample_frames stands frame)) (now.counted start);
    }

pub returns : goal.returns
returns c =
    let past = c.loop-frame-test.false in
    let most = c.loop-frame.auto.frame-end c.requires.rising in
    let last : c.loop-frame.frame ≡ c.args.span.end = omega (arith, past, most) in
    record {
      room = c.loop-frame.invariant.room;
      bounds = subst (λ n. AreBounded n c.loop-frame.counts) last c.loop-frame.invariant.bounds;
      counted = λ start. subst (λ n. AreCounted (number_of c.args.sending.inputs.now) n c.loop-frame.counts) last (c.loop-frame.invariant.counted start);
    }
