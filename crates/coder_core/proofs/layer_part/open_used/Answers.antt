use Rattle.std.proofs.Common.{Some, sym, subst}
use Rattle.coder_core.specs.SentCells.{epoch_packet}
use Rattle.coder_core.specs.UsedLayers.{CoderStandsFor}
use Rattle.coder_core.proofs.layer_part.open_used.Goals as goal

pub returns-in_ok-coder-in-Some-clause-state : goal.returns-in_ok-coder-in-Some-clause-state
returns-in_ok-coder-in-Some-clause-state c = λ x frames start.
    subst (λ o. CoderStandsFor c.args.mode o (Some c.in_ok-coder-in-Some.coder) x frames start 0) (sym c.in-Some.is)
    ((c.in_ok-coder-in-Some.ensures {u = tt}).state (epoch_packet c.args.mode c.in-Some.used frames start x))
