use Rattle.std.proofs.Common.{ap, ◌∙◌}
use Rattle.edge_io.specs.declared.shelf.Seat.TheVariants.{A}
use Rattle.edge_io.proofs.tests.shelf_of_ten.Goals as goal

pub open-requires : goal.open-requires
open-requires c = ap (λ f. f A) c.pieces.ensures.seats.is_open ∙ c.in_ok-shelf.ensures
