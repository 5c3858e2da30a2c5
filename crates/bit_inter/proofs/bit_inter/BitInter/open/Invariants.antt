use Rattle.std.proofs.Common.{◌≡◌, ◌-◌, ◌*◌, ◌/◌, false, map, replicate}
use Rattle.std.specs.List.{range_with_len}
use Rattle.bit_inter.proofs.bit_inter.BitInter.open.Given as goal

abbrev pub invariant-loop-path : goal.invariant-loop-path
invariant-loop-path g l = l.bank ≡ map (λ p. replicate (120 * p / (g.row.V - 1)) false) (range_with_len 0 l.path)
