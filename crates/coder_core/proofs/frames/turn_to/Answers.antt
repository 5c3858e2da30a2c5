use Rattle.std.proofs.Common.{◌≡◌, ◌∙◌, true, sym, arith}
use Rattle.isdbt_base.specs.Plans.{at_frame}
use Rattle.isdbt_base.specs.Epochs.{begins_later}
use Rattle.coder_core.proofs.EpochSteps.{begun-start, stands-fresh}
use Rattle.coder_core.proofs.frames.turn_to.Goals as goal

pub returns-clause-stands : goal.returns-clause-stands
returns-clause-stands c = λ frames h.
    let p = c.args.plan.now in
    let f = c.args.number in
    let set = c.if-not-begins_epoch.false in
    let begun : begins_later p f ≡ true = sym c.begins_epoch.ensures ∙ set in
    let start = begun-start p f begun in
    stands-fresh c.in_ok-coder.field-0 p frames f (omega (arith, start)) (c.in_ok-coder.ensures.state frames (at_frame p f).start)
