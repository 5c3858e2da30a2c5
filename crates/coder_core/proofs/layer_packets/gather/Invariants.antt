use Rattle.std.proofs.Common.{◌≡◌, ◌≤◌, length, take}
use Rattle.coder_core.proofs.Gathered.{first_slots, first_packets}
use Rattle.coder_core.proofs.layer_packets.gather.Given as goal

abbrev pub invariant-loop-slot : goal.invariant-loop-slot
invariant-loop-slot l = record {
  count : l.next ≡ length (first_slots l.frame l.layer l.slot);
  most : l.next ≤ l.slot;
  taken : take l.next l.packets ≡ first_packets l.frame l.layer l.slot;
}
