use Rattle.std.proofs.Common.{◌≡◌}
use Rattle.isdbt_base.specs.Numbers.{cell_bits}
use Rattle.layer_chain.proofs.BitPathLaws.{new_lines}
use Rattle.layer_chain.specs.BitPaths.{path_delay}
use Rattle.layer_chain.proofs.bit_paths.BitPaths.open.Given as goal

abbrev pub invariant-loop-bit : goal.invariant-loop-bit
invariant-loop-bit l = l.lines.items ≡ new_lines (path_delay (cell_bits l.fn.modulation) l.cells) l.bit
