use Rattle.std.proofs.Common.{◌≡◌, ◌≢◌, ◌+◌, ◌-◌, ◌<◌, length, get_or, ap, ◌∙◌, arith, below_more, get_or-set_other, get_or-set_same}
use Rattle.conv_punct.specs.declared.pattern.Sent.TheVariants.{X}
use Rattle.isdbt_base.specs.Numbers.{rate_steps}
use Rattle.conv_punct.specs.Sending.{sent_bit}
use Rattle.conv_punct.proofs.PunctureLaws.{length-sent, sent-step, sent-coded}
use Rattle.conv_punct.proofs.puncture.put_pattern.Goals as goal

pub sent_bit-requires-clause-within : goal.sent_bit-requires-clause-within
sent_bit-requires-clause-within c =
    let small = sent-step c.args.rate c.pattern_of-pattern.result.now c.loop-index.index c.pattern_of-pattern.ensures c.loop-index-test.true in
    omega (arith, small, c.rate_pair-steps.ensures.steps)

pub loop-index-preserved : goal.loop-index-preserved
loop-index-preserved c =
    let at = c.args.at in
    let k = c.loop-index.index in
    let size = length-sent c.args.rate c.pattern_of-pattern.result.now c.pattern_of-pattern.ensures in
    let here : at + k < length c.loop-index.out = omega (arith, size) in
    record {
      sent = below_more _ _
          (λ r below. let other : at + r ≢ at + k = omega arith in rw get_or-set_other (c.loop-index.invariant.sent r below))
          (rw get_or-set_same c.sent_bit.ensures);
      before = λ j below. (let other : j ≢ at + k = omega arith in rw get_or-set_other (c.loop-index.invariant.before j below));
      behind = λ j above. (let other : j ≢ at + k = omega arith in rw get_or-set_other (c.loop-index.invariant.behind j (omega arith)));
    }

pub returns-clause-coded : goal.returns-clause-coded
returns-clause-coded c = λ u i before outputs place j h.
    let rate = c.args.rate in
    let sent = c.pattern_of-pattern.result.now in
    let size = length-sent rate sent c.pattern_of-pattern.ensures in
    let small = sent-step rate sent j c.pattern_of-pattern.ensures (omega (arith, size, h)) in
    let steps : c.rate_pair-steps.result.0 ≡ rate_steps rate = c.rate_pair-steps.ensures.steps in
    let first : c.args.last + (c.rate_pair-steps.result.0 - 1) ≡ c.args.last + rate_steps rate - 1 = omega (arith, steps, small) in
    c.loop-index.invariant.sent j (omega (arith, size))
    ∙ c.moved_down-moved.ensures (c.rate_pair-steps.result.0 - 1) (get_or sent j (X 0)) (omega (arith, steps, small))
    ∙ ap (λ k. sent_bit c.args.outputs.now k (get_or sent j (X 0))) first
    ∙ sent-coded rate sent c.args.outputs.now u i before c.args.last j c.pattern_of-pattern.ensures h outputs place

pub returns-clause-others : goal.returns-clause-others
returns-clause-others c =
    let size = length-sent c.args.rate c.pattern_of-pattern.result.now c.pattern_of-pattern.ensures in
    record { before = c.loop-index.invariant.before; behind = λ j above. c.loop-index.invariant.behind j (omega (arith, size)) }
