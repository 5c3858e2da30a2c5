use Rattle.bit_inter.proofs.SenderLaws.{get_or-sender_output}
use Rattle.bit_inter.proofs.laws.sender_law.Goals as goal

pub returns : goal.returns
returns c = get_or-sender_output c.args.v c.args.cells
