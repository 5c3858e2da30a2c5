-- A frame as it is made of the packets that were read for it, and the greatest numbers of a plan.
use Rattle.std.specs.Prelude.{ℕ, List}
use Rattle.isdbt_base.specs.declared.kinds.Layer.{Layer}
use Rattle.isdbt_base.specs.Parameters.{layer_of, number_of}
use Rattle.isdbt_base.specs.Numbers.{packets_per_frame, slots_per_frame}
use Rattle.isdbt_base.specs.Plans.{Transmission, Schedule, at_frame, greatest_of}
use Rattle.frame_order.specs.OrderedFrame.{ordered_frame}
use Rattle.ts_packet.specs.Packets.{null_packet}
use Rattle.remux_core.specs.Multiplex.{frame_tag}

-- packets of a layer in a frame, none where it is unused
abbrev pub packets_of : Transmission → Layer → ℕ
packets_of t x = number_of (packets_per_frame t.mode) (layer_of t.setting x)

-- what a frame of a plan sends
abbrev pub sent_at : Schedule → ℕ → Transmission
sent_at p f = record { mode = (at_frame p f).mode; guard = (at_frame p f).guard; setting = (at_frame p f).setting }

-- the most packets of a layer in a frame of a plan
abbrev pub most_packets : Schedule → Layer → ℕ
most_packets p x = greatest_of (λ t. number_of (packets_per_frame t.mode) (layer_of t.setting x)) p

-- the slots of the greatest frame of a plan
abbrev pub most_slots : Schedule → ℕ
most_slots p = greatest_of (λ t. slots_per_frame t.mode t.guard) p

-- frame f of a plan, which is sent so, made of packet j of each layer
unfoldable pub frame_made : Schedule → Transmission → ℕ → (Layer → ℕ → List ℕ) → List ℕ
frame_made p t f packet = ordered_frame t.mode t.guard t.setting (frame_tag (at_frame p f) f) null_packet packet
