use Rattle.std.proofs.Common.{◌≡◌, ℕ, ◌+◌, ◌*◌, ◌<◌, false, get_or}
use Rattle.layer_chain.specs.LayerCells.{bit_of_number}
use Rattle.layer_chain.proofs.cell_bits.put_wide.Given as goal

abbrev pub invariant-loop-cell : goal.invariant-loop-cell
invariant-loop-cell l = (e r : ℕ) → e < l.cell → r < l.width → get_or l.bits (l.width * e + r) false ≡ bit_of_number l.width (get_or l.numbers e 0) r
