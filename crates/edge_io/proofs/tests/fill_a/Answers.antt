use Rattle.std.proofs.Common.{ap, ◌∙◌}
use Rattle.edge_io.specs.declared.shelf.Seat.TheVariants.{A}
use Rattle.edge_io.proofs.tests.fill_a.Goals as goal

pub returns : goal.returns
returns g c = ap (λ f. f A) c.fill.ensures.still_open ∙ c.requires
