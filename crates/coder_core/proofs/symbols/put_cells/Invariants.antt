use Rattle.std.proofs.Common.{◌≡◌, ◌+◌, ◌*◌, ◌≤◌, ◌++◌, length, take}
use Rattle.coder_core.specs.Symbols.{cells_bytes}
use Rattle.coder_core.proofs.symbols.put_cells.Given as goal

abbrev pub invariant-loop-k : goal.invariant-loop-k
invariant-loop-k l = record {
  room : l.at + 2 * length l.cells ≤ length l.out;
  bytes : take (l.at + 2 * l.k) l.out ≡ take l.at l.initial.out ++ cells_bytes (take l.k l.cells);
}
