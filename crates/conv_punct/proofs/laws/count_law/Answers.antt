use Rattle.conv_punct.proofs.PatternLaws.{coded_step-counted, coded_step-lt}
use Rattle.conv_punct.proofs.laws.count_law.Goals as goal

pub returns : goal.returns
returns c = λ steps number. (coded_step-counted c.args.rate number steps, coded_step-lt c.args.rate number steps)
