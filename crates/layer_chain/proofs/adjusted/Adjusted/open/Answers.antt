use Rattle.std.proofs.Common.{[], sym, subst, ap, ◌∙◌}
use Rattle.std.specs.Prelude.{replicate}
use Rattle.delay_line.specs.Adjusted.{AdjustedStandsFor}
use Rattle.delay_line.proofs.AdjustedLaws.{AdjustedStandsFor-nil}
use Rattle.layer_chain.proofs.adjusted.Adjusted.open.Goals as goal

pub returns-clause-stands : goal.returns-clause-stands
returns-clause-stands g c = λ stands.
    let l = g.S.Stage.layout c.args.stage in
    subst (λ line. AdjustedStandsFor l c.args.adjustment line (g.S.Stage.held c.args.stage) [])
    (sym (c.in_ok-line.ensures ∙ ap (replicate c.args.adjustment) c.zero-zero.ensures)) (AdjustedStandsFor-nil l c.args.adjustment (g.S.Stage.held c.args.stage) stands)
