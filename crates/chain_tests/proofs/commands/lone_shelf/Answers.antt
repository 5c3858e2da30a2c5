use Rattle.std.proofs.Common.{ap, ◌∙◌}
use Rattle.edge_io.specs.declared.shelf.Seat.TheVariants as seats
use Rattle.chain_tests.proofs.commands.lone_shelf.Goals as goal

pub open-requires : goal.open-requires
open-requires c = ap (λ f. f seats.In) c.fail_from.ensures.seats.is_open ∙ ap (λ f. f seats.In) c.pieces.ensures.seats.is_open ∙ ap (λ f. f seats.In) c.put.ensures.seats.is_open ∙ c.new-shelf.ensures.closed seats.In
