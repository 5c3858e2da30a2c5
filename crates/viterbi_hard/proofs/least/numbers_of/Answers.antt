use Rattle.viterbi_hard.proofs.LaneLaws.{numbers_at}
use Rattle.viterbi_hard.proofs.least.numbers_of.Goals as goal

pub returns : goal.returns
returns c = λ i h. numbers_at c.args.v c.args.value i c.fits-v.0 h
