use Rattle.viterbi_hard.proofs.DecidedLaws.{least_path-is_least}
use Rattle.viterbi_hard.proofs.laws.least_path_law.Goals as goal

pub returns : goal.returns
returns c = least_path-is_least c.args.rate
