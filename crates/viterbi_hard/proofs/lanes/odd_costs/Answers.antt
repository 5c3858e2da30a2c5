use Rattle.viterbi_hard.proofs.StateLaws.{odd_cost}
use Rattle.viterbi_hard.proofs.lanes.odd_costs.Goals as goal

pub returns : goal.returns
returns c = λ i h. odd_cost c.args.read i h
