use Rattle.isdbt_base.proofs.NumberLaws.{total-below_slots}
use Rattle.frame_order.proofs.OrderLaws.{mark_at-zero}
use Rattle.frame_order.proofs.laws.room_law.Goals as goal

pub returns : goal.returns
returns c = record {
  room = total-below_slots c.args.mode c.args.guard c.args.setting.now c.acceptance_law.ensures;
  first = mark_at-zero c.args.mode c.args.guard c.args.setting.now c.acceptance_law.ensures;
}
