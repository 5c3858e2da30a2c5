use Rattle.std.proofs.Common.{ap, ◌∙◌}
use Rattle.edge_io.specs.declared.shelf.Seat.TheVariants.{A}
use Rattle.edge_io.proofs.tests.fail_a.Goals as goal

pub returns : goal.returns
returns c = ap (λ f. f A) c.fail_from.ensures.seats.is_open ∙ c.requires
