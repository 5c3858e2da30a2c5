use Rattle.std.proofs.Common.{◌≡◌, ◌-◌, ◌*◌, map, replicate}
use Rattle.std.specs.List.{range_with_len}
use Rattle.byte_inter.proofs.byte_deinter.ByteDeinter.open.Given as goal

abbrev pub invariant-loop-path : goal.invariant-loop-path
invariant-loop-path g l = l.bank ≡ map (λ p. replicate (g.row.UNIT * (g.row.PATHS - 1 - p)) 0) (range_with_len 0 l.path)
