use Rattle.byte_inter.proofs.SenderLaws.{stage_item-deinter}
use Rattle.byte_inter.proofs.laws.receiver_law.Goals as goal

pub returns : goal.returns
returns c = stage_item-deinter c.args.t c.requires
