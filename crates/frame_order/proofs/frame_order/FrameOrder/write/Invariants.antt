use Rattle.std.proofs.Common.{◌≡◌, ◌*◌, length, take}
use Rattle.isdbt_base.specs.Numbers.{slots_per_frame}
use Rattle.ts_packet.specs.Packets.{null_packet}
use Rattle.frame_order.specs.LayerBytes.{layer_packet}
use Rattle.frame_order.proofs.FrameBytes.{first_slots}
use Rattle.frame_order.proofs.frame_order.FrameOrder.write.Given as goal

abbrev pub invariant-loop-slot : goal.invariant-loop-slot
invariant-loop-slot l = record {
  room : length l.out ≡ 204 * slots_per_frame l.self.mode l.self.guard;
  null : l.null ≡ null_packet;
  at : l.at ≡ 204 * l.slot;
  bytes : take l.at l.out ≡ first_slots l.self.mode l.self.guard l.self.setting l.tag l.first (layer_packet l.packets) l.slot;
}
