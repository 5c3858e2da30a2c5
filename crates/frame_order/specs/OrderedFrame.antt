-- A frame of broadcast packets in its order.
use Rattle.std.specs.Prelude.{ℕ, ◌==◌, if◌then◌else◌, Option, Some, None, List}
use Rattle.std.specs.Option.{option_map}
use Rattle.isdbt_base.specs.declared.kinds.Mode.{Mode}
use Rattle.isdbt_base.specs.declared.kinds.Guard.{Guard}
use Rattle.isdbt_base.specs.declared.kinds.Layer.{Layer}
use Rattle.isdbt_base.specs.Parameters.{Parameters}
use Rattle.isdbt_base.specs.Numbers.{slots_per_frame}
use Rattle.ts_packet.specs.Packets.{null_packet}
use Rattle.bts_info.specs.Fields.{Tag}
use Rattle.bts_info.specs.BroadcastPackets.{broadcast_frame}
use Rattle.frame_order.specs.declared.mark.Mark.{Mark}
use Rattle.frame_order.specs.Order.{mark_at}

-- the packet in a slot, by what stands in slots that no layer has
abbrev pub marked_packet : List ℕ → (Layer → ℕ → List ℕ) → Option Mark → List ℕ
marked_packet unmarked packet None = unmarked
marked_packet unmarked packet (Some m) = packet m.layer m.index

-- what stands in a slot that no layer has: this in slot 0, which is one of them, and else the null packet
abbrev pub unmarked_packet : List ℕ → ℕ → List ℕ
unmarked_packet first k = if k == 0 then first else null_packet

-- the broadcast packets of a frame, from the packet of slot 0 and packet j of each layer
unfoldable pub ordered_frame : Mode → Guard → Parameters → Tag → List ℕ → (Layer → ℕ → List ℕ) → List ℕ
ordered_frame mode guard s tag first packet =
    broadcast_frame (slots_per_frame mode guard) tag (λ k. option_map (λ m. m.layer) (mark_at mode guard s k))
    (λ k. marked_packet (unmarked_packet first k) packet (mark_at mode guard s k))
