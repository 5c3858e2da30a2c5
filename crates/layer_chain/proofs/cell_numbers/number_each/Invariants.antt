use Rattle.std.proofs.Common.{◌≡◌, ℕ, ◌+◌, ◌*◌, ◌<◌, false, get_or}
use Rattle.layer_chain.specs.LayerCells.{cell_number}
use Rattle.layer_chain.proofs.cell_numbers.number_each.Given as goal

abbrev pub invariant-loop-cell : goal.invariant-loop-cell
invariant-loop-cell l = (e : ℕ) → e < l.cell → get_or l.numbers e 0 ≡ cell_number l.width (λ r. get_or l.bits (l.width * e + r) false)
