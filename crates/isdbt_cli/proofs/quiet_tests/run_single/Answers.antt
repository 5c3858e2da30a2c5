use Rattle.std.proofs.Common.{ap, ◌∙◌}
use Rattle.isdbt_cli.proofs.quiet_tests.run_single.Goals as goal

pub run_quietly-outcome-requires : goal.run_quietly-outcome-requires
run_quietly-outcome-requires c = λ seat. ap (λ f. f seat) c.put.ensures.seats.is_open ∙ c.new-shelf.ensures.closed seat
