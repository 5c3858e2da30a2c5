use Rattle.std.proofs.Common.{◌≡◌, ◌<◌, ◌^◌, false, get_or}
use Rattle.layer_chain.specs.LayerCells.{cell_number}
use Rattle.layer_chain.proofs.cell_numbers.number_of.Given as goal

abbrev pub invariant-loop-bit : goal.invariant-loop-bit
invariant-loop-bit l = record {
  number_is : l.number ≡ cell_number l.bit-index (λ r. get_or l.bits r false);
  small : l.number < 2 ^ l.bit-index;
}
