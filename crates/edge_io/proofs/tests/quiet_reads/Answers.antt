use Rattle.std.proofs.Common.{ap, ◌∙◌}
use Rattle.edge_io.specs.declared.shelf.Seat.TheVariants.{A}
use Rattle.edge_io.proofs.tests.quiet_reads.Goals as goal

pub open-requires : goal.open-requires
open-requires c = ap (λ f. f A) c.put.ensures.seats.is_open ∙ c.new-shelf.ensures.closed A
