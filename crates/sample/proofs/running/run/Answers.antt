use Rattle.std.proofs.Common.{ap, ◌∙◌}
use Rattle.isdbt_base.specs.declared.kinds.Layer.TheVariants.{A, B}
use Rattle.sample.specs.Tallies.{tally_of}
use Rattle.sample.specs.Inputs.{number_of}
use Rattle.sample.proofs.PlaceLaws.{given-all}
use Rattle.sample.proofs.running.run.Goals as goal

pub returns-clause-a : goal.returns-clause-a
returns-clause-a c = c.in_ok-counts.ensures.a.tally ∙ ap (λ n. tally_of (number_of c.in_ok-inputs.inputs) A n 15) (given-all A) ∙ ap (λ n. tally_of n A 100 15) c.in_ok-inputs.ensures

pub returns-clause-b : goal.returns-clause-b
returns-clause-b c = c.in_ok-counts.ensures.b.tally ∙ ap (λ n. tally_of (number_of c.in_ok-inputs.inputs) B n 15) (given-all B) ∙ ap (λ n. tally_of n B 3000 15) c.in_ok-inputs.ensures
