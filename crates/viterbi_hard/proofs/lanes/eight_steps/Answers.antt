use Rattle.std.proofs.Common.{◌≡◌, ◌+◌, arith, subst, sym, add-one, add-zero}
use Rattle.viterbi_hard.specs.States.{AreTags, Holds}
use Rattle.viterbi_hard.specs.Steps.{pushed}
use Rattle.viterbi_hard.proofs.BlockLaws.{own_tags}
use Rattle.viterbi_hard.proofs.lanes.eight_steps.Goals as goal

pub loop-step-init : goal.loop-step-init
loop-step-init c = record {
  metrics = λ since rs k le. subst (λ s. Holds c.args.start s rs) (sym (add-zero since)) k;
  tags = λ since rs k le. own_tags rs;
}

pub loop-step-preserved : goal.loop-step-preserved
loop-step-preserved c = record {
  metrics = λ since rs k le.
      let on : since + c.loop-step.step + 1 ≡ since + (c.loop-step.step + 1) = omega arith in
      subst (λ s. Holds c.next_step.result.0 s (pushed c.args.steps.now c.args.at (c.loop-step.step + 1) rs)) on
      (subst (λ m. Holds c.next_step.result.0 (since + c.loop-step.step + 1) (pushed c.args.steps.now c.args.at m rs)) (sym (add-one c.loop-step.step))
      (c.next_step.ensures.metrics (since + c.loop-step.step) (pushed c.args.steps.now c.args.at c.loop-step.step rs) (c.loop-step.invariant.metrics since rs k le) (omega (arith, c.loop-step-test.true))));
  tags = λ since rs k le.
      subst (λ m. AreTags c.next_step.result.1 (c.loop-step.step + 1) (pushed c.args.steps.now c.args.at m rs)) (sym (add-one c.loop-step.step))
      (c.next_step.ensures.tags (since + c.loop-step.step) (pushed c.args.steps.now c.args.at c.loop-step.step rs) (c.loop-step.invariant.metrics since rs k le) (omega (arith, c.loop-step-test.true)) (c.loop-step.invariant.tags since rs k le));
}

pub returns-clause-metrics : goal.returns-clause-metrics
returns-clause-metrics c = λ since rs k le.
    let all : c.loop-step.step ≡ 8 = omega (arith, c.loop-step-test.false, c.loop-step.auto.step-end) in
    subst (λ m. Holds c.loop-step.metrics (since + m) (pushed c.args.steps.now c.args.at m rs)) all (c.loop-step.invariant.metrics since rs k le)

pub returns-clause-tags : goal.returns-clause-tags
returns-clause-tags c = λ since rs k le.
    let all : c.loop-step.step ≡ 8 = omega (arith, c.loop-step-test.false, c.loop-step.auto.step-end) in
    subst (λ m. AreTags c.loop-step.tags m (pushed c.args.steps.now c.args.at m rs)) all (c.loop-step.invariant.tags since rs k le)
