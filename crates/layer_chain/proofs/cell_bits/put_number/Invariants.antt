use Rattle.std.proofs.Common.{◌≡◌, ℕ, ◌<◌, false, get_or}
use Rattle.layer_chain.specs.LayerCells.{bit_of_number}
use Rattle.layer_chain.proofs.cell_bits.put_number.Given as goal

abbrev pub invariant-loop-bit : goal.invariant-loop-bit
invariant-loop-bit l = (r : ℕ) → r < l.bit → get_or l.bits r false ≡ bit_of_number l.width l.number r
