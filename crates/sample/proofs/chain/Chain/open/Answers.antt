use Rattle.std.proofs.Common.{◌≡◌, ◌-◌, ap, arith, ◌∙◌, subst}
use Rattle.isdbt_base.specs.declared.epoch.At.{At}
use Rattle.isdbt_base.specs.Plans.{at_frame}
use Rattle.coder_core.proofs.EpochSteps.{stands-fresh}
use Rattle.seg_receiver.specs.Receiver.{StandsFor}
use Rattle.sample.specs.SpoiledCells.{sent_cells, spoiled}
use Rattle.sample.proofs.chain.Chain.open.Goals as goal

pub returns-clause-of : goal.returns-clause-of
returns-clause-of c =
    let mode = ap (λ (a : At). a.mode) c.at-at.ensures.value in
    let guard = ap (λ (a : At). a.guard) c.at-at.ensures.value in
    let setting = ap (λ (a : At). a.setting) c.at-at.ensures.value in
    record {
      coder_of = record { mode = c.in_ok-coder.ensures.mode ∙ mode; guard = c.in_ok-coder.ensures.guard ∙ guard; setting = c.in_ok-coder.ensures.setting ∙ setting };
      mode = c.in_ok-receiver.ensures.mode ∙ mode;
      guard = c.in_ok-receiver.ensures.guard ∙ guard;
      setting = c.in_ok-receiver.ensures.setting ∙ setting;
      fresh = c.in_ok-receiver.ensures.symbols;
    }

pub returns-clause-stands : goal.returns-clause-stands
returns-clause-stands c = λ frames first.
    let p = c.args.plan.now in
    let f = c.args.start in
    let start = (at_frame p f).start in
    let cells = spoiled (sent_cells p frames) in
    record {
      coder_stands = stands-fresh c.in_ok-coder.coder p frames f (omega (arith, first)) (c.in_ok-coder.ensures.state frames start);
      receiver_stands = subst (StandsFor c.in_ok-receiver.receiver cells start) (let none : 0 ≡ f - start = omega (arith, first) in none) (c.in_ok-receiver.ensures.state cells start);
    }
