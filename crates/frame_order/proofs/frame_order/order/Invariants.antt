use Rattle.frame_order.proofs.Filling.{IsPlaced}
use Rattle.frame_order.proofs.frame_order.order.Given as goal

abbrev pub invariant-loop-rank : goal.invariant-loop-rank
invariant-loop-rank l = IsPlaced l.fn.mode l.fn.guard l.fn.setting l.packet-items l.rank l.next l.by_slot.items l.by_place.items
