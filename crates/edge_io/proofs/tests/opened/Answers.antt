use Rattle.std.proofs.Common.{◌∙◌}
use Rattle.edge_io.specs.declared.shelf.Seat.TheVariants.{A, B}
use Rattle.edge_io.proofs.tests.opened.Goals as goal

pub open-requires : goal.open-requires
open-requires c = c.new-shelf.ensures.closed A

pub returns-clause-closed : goal.returns-clause-closed
returns-clause-closed c = c.open.ensures.other_open B (λ e. cc) ∙ c.new-shelf.ensures.closed B
