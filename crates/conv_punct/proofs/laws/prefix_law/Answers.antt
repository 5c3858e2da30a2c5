use Rattle.conv_punct.proofs.CodedLaws.{coded_bit-prefix}
use Rattle.conv_punct.proofs.laws.prefix_law.Goals as goal

pub returns : goal.returns
returns c = coded_bit-prefix c.args.rate
