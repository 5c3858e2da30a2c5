-- The packets of a frame, and their places layer by layer.
use Rattle.std.specs.Prelude.{◌≡◌, ℕ, ◌+◌, ◌<◌, List, map, Option}
use Rattle.std.specs.List.{range_with_len}
use Rattle.isdbt_base.specs.declared.kinds.Mode.{Mode}
use Rattle.isdbt_base.specs.declared.kinds.Guard.{Guard}
use Rattle.isdbt_base.specs.Parameters.{Parameters, IsAccepted, layer_of, number_of, sum_before}
use Rattle.isdbt_base.specs.Numbers.{packets_per_frame, slots_per_frame}
use Rattle.frame_order.specs.declared.mark.Mark.{Mark}
use Rattle.frame_order.specs.Order.{all_marks, slot_of, mark_at}

-- a packet of the frame: its layer is used, and has so many packets
abbrev pub IsInFrame : Mode → Parameters → Mark → Type 0
IsInFrame mode s m = m.index < number_of (packets_per_frame mode) (layer_of s m.layer)

-- the place of a packet among the packets of all layers
abbrev pub place_of : Mode → Parameters → Mark → ℕ
place_of mode s m = sum_before (packets_per_frame mode) s m.layer + m.index

-- the packet of each slot, and the slot of each packet
pub record IsFilled (mode : Mode) (guard : Guard) (s : Parameters) (by_slot : List (Option Mark)) (by_place : List ℕ) : Type 0 where
  pub accepted : IsAccepted s
  pub marks : by_slot ≡ map (mark_at mode guard s) (range_with_len 0 (slots_per_frame mode guard))
  pub slots : by_place ≡ map (slot_of mode guard s) (all_marks mode s)
