use Rattle.std.proofs.Common.{arith}
use Rattle.frame_order.proofs.OrderLaws.{slot_of-layer}
use Rattle.frame_order.proofs.laws.rising_law.Goals as goal

pub returns : goal.returns
returns c = slot_of-layer c.args.mode c.args.guard c.args.setting.now c.acceptance_law.ensures c.args.layer c.args.first c.args.second (omega (arith, c.requires.order, c.requires.second)) c.requires.order
