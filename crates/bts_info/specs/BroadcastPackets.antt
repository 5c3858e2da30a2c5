-- Broadcast packets of 204 bytes (after the broadcast TS of ARIB STD-B31).
use Rattle.std.specs.Prelude.{ℕ, List, ◌++◌, replicate, flat_map, Option}
use Rattle.std.specs.List.{range_with_len}
use Rattle.isdbt_base.specs.declared.kinds.Layer.{Layer}
use Rattle.bts_info.specs.Fields.{Tag}
use Rattle.bts_info.specs.Information.{information, info_for}

-- a packet, its information, and eight bytes FF
abbrev pub broadcast_packet : List ℕ → Tag → Option Layer → ℕ → List ℕ
broadcast_packet packet tag layer slot = packet ++ information (info_for tag layer slot) ++ replicate 8 0xFF

-- a frame of so many slots: slot after slot its packet, by the layer of each slot
unfoldable pub broadcast_frame : ℕ → Tag → (ℕ → Option Layer) → (ℕ → List ℕ) → List ℕ
broadcast_frame slots tag layer_of packet_of = flat_map (λ s. broadcast_packet (packet_of s) tag (layer_of s) s) (range_with_len 0 slots)
