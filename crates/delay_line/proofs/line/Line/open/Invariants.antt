use Rattle.std.proofs.Common.{◌≡◌, replicate}
use Rattle.delay_line.proofs.line.Line.open.Given as goal

abbrev pub invariant-loop : goal.invariant-loop
invariant-loop g l = record {
  items : l.ring.items ≡ replicate l.counter l.fill;
  capacity : l.ring.capacity ≡ l.delay;
}
