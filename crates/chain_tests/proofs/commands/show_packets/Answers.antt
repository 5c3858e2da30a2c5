use Rattle.std.proofs.Common.{ap, ◌∙◌}
use Rattle.edge_io.specs.declared.shelf.Seat.TheVariants as seats
use Rattle.chain_tests.proofs.commands.show_packets.Goals as goal

pub left_at-requires : goal.left_at-requires
left_at-requires c = ap (λ f. f seats.In) c.show_bts-answer.ensures.still_open ∙ c.in_ok-shelf.ensures
