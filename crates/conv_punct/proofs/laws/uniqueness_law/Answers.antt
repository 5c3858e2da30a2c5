use Rattle.conv_punct.proofs.CodedLaws.{lists-unique, lists-same}
use Rattle.conv_punct.proofs.laws.uniqueness_law.Goals as goal

pub returns : goal.returns
returns c = λ inputs others size. (lists-unique c.args.rate inputs others size, lists-same c.args.rate inputs others)
