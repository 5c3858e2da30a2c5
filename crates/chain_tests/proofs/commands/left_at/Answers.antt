use Rattle.std.proofs.Common.{ap, ◌∙◌}
use Rattle.chain_tests.proofs.commands.left_at.Goals as goal

pub read-requires-clause-open : goal.read-requires-clause-open
read-requires-clause-open c = ap (λ f. f c.args.seat) c.pieces.ensures.seats.is_open ∙ c.requires
