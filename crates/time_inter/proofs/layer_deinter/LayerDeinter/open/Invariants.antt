use Rattle.std.proofs.Common.{◌≡◌, ◌-◌, ◌*◌, ◌%◌, map, replicate}
use Rattle.std.specs.List.{range_with_len}
use Rattle.isdbt_base.specs.Numbers.{carriers}
use Rattle.time_inter.proofs.layer_deinter.LayerDeinter.open.Given as goal

abbrev pub invariant-loop-cell : goal.invariant-loop-cell
invariant-loop-cell l = l.bank ≡ map (λ w. replicate (l.length * (95 - 5 * (w % carriers l.mode) % 96)) 0) (range_with_len 0 l.cell)
