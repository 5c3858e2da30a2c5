-- The packets of a frame, layer by layer.
use Rattle.std.specs.Prelude.{◌≡◌, ℕ, ◌%◌, List, length}
use Rattle.isdbt_base.specs.declared.kinds.Layer.{Layer}
use Rattle.isdbt_base.specs.declared.kinds.Layer.TheVariants.{A, B, C}
use Rattle.ts_packet.specs.Packets.{packet_bytes, piece_or_null}
use Rattle.frame_order.specs.declared.layer_packets.LayerPackets.{LayerPackets}

-- the bytes of a layer
abbrev pub layer_bytes : LayerPackets → Layer → List ℕ
layer_bytes packets A = packets.a.now
layer_bytes packets B = packets.b.now
layer_bytes packets C = packets.c.now

-- packet j of a layer, or the null packet where the layer has fewer
abbrev pub layer_packet : LayerPackets → Layer → ℕ → List ℕ
layer_packet packets x j = piece_or_null (layer_bytes packets x) j

-- the bytes of each layer are whole packets
pub record AreWhole (packets : LayerPackets) : Type 0 where
  pub a : length packets.a.now % packet_bytes ≡ 0
  pub b : length packets.b.now % packet_bytes ≡ 0
  pub c : length packets.c.now % packet_bytes ≡ 0
