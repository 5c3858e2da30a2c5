use Rattle.std.proofs.Common.{arith}
use Rattle.bit_inter.proofs.SenderLaws.{stage_item-deinter}
use Rattle.bit_inter.proofs.laws.receiver_law.Goals as goal

pub returns : goal.returns
returns c = stage_item-deinter c.args.v c.args.cells (omega arith) c.requires.cells
