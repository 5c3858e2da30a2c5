use Rattle.std.proofs.Common.{◌≡◌, ◌*◌, length}
use Rattle.ts_packet.specs.Packets.{null_packet}
use Rattle.layer_chain.proofs.LaidPackets.{AreLaid}
use Rattle.layer_chain.proofs.outer_decoder.put_nulls.Given as goal

abbrev pub invariant-loop : goal.invariant-loop
invariant-loop l = record {
  room : length l.out ≡ length l.initial.out;
  at : l.at ≡ 188 * l.counter;
  laid : AreLaid (λ _. null_packet) l.out l.counter;
}
