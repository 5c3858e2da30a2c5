use Rattle.std.proofs.Common.{◌≡◌, ◌*◌, ◌%◌, map, replicate}
use Rattle.std.specs.List.{range_with_len}
use Rattle.time_inter.proofs.time_inter.TimeInter.open.Given as goal

abbrev pub invariant-loop-carrier : goal.invariant-loop-carrier
invariant-loop-carrier g l = l.bank ≡ map (λ p. replicate (g.row.I * (5 * p % 96)) 0) (range_with_len 0 l.carrier)
