use Rattle.std.proofs.Common.{ap, subst, ◌∙◌}
use Rattle.isdbt_base.specs.Plans.{Schedule, at_frame}
use Rattle.sample.specs.Chain.{IsOfFrame, StandsAt}
use Rattle.sample.specs.Inputs.{number_of}
use Rattle.sample.specs.Tallies.{sample_sent}
use Rattle.sample.proofs.running.run_epoch.Goals as goal

pub run_frames-requires-clause-of : goal.run_frames-requires-clause-of
run_frames-requires-clause-of c = subst (λ (q : Schedule). IsOfFrame q c.args.span.start c.in_ok-chain.chain) c.requires.plan c.in_ok-chain.ensures.of

pub run_frames-requires-clause-stands : goal.run_frames-requires-clause-stands
run_frames-requires-clause-stands c =
    let frames = sample_sent (number_of c.args.sending.inputs.now) in
    subst (λ (q : Schedule). StandsAt q frames c.args.span.start c.in_ok-chain.chain) c.requires.plan
    (c.in_ok-chain.ensures.stands frames (ap (λ (q : Schedule). (at_frame q c.args.span.start).start) c.requires.plan ∙ c.requires.begins))
