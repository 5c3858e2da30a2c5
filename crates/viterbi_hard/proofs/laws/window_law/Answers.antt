use Rattle.viterbi_hard.proofs.DecidedLaws.{window-decided}
use Rattle.viterbi_hard.proofs.laws.window_law.Goals as goal

pub returns : goal.returns
returns c = window-decided c.args.rate
