use Rattle.std.proofs.Common.{refl, arith}
use Rattle.layer_chain.specs.LayerCells.{cell_number}
use Rattle.layer_chain.proofs.CellNumbers.{cell_number-more, small-more, from_bool-le}
use Rattle.layer_chain.proofs.cell_numbers.number_of.Goals as goal

pub loop-bit-init : goal.loop-bit-init
unfolding cell_number
loop-bit-init c = record { number_is = refl; small = omega arith }

pub loop-bit-preserved : goal.loop-bit-preserved
loop-bit-preserved c = record {
  number_is = cell_number-more c.loop-bit.bit-index c.loop-bit.number c.from.result _ c.loop-bit.invariant.number_is c.from.ensures;
  small = small-more c.loop-bit.bit-index c.loop-bit.number c.from.result c.loop-bit.invariant.small (rw c.from.ensures (from_bool-le _));
}
