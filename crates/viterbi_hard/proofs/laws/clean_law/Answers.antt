use Rattle.viterbi_hard.proofs.DecidedLaws.{clean-decided}
use Rattle.viterbi_hard.proofs.laws.clean_law.Goals as goal

pub returns : goal.returns
returns c = clean-decided c.args.rate
