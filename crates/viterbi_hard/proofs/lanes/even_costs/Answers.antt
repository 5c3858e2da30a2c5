use Rattle.viterbi_hard.proofs.StateLaws.{even_cost}
use Rattle.viterbi_hard.proofs.lanes.even_costs.Goals as goal

pub returns : goal.returns
returns c = λ i h. even_cost c.args.read i h
