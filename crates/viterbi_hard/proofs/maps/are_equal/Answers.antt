use Rattle.viterbi_hard.proofs.LaneLaws.{equal_at, all_equal}
use Rattle.viterbi_hard.proofs.maps.are_equal.Goals as goal

pub returns-clause-equal : goal.returns-clause-equal
returns-clause-equal c = λ e i h. equal_at c.args.v _ i c.fits-v.0 h e

pub returns-clause-all : goal.returns-clause-all
returns-clause-all c = λ h. all_equal c.args.v _ c.fits-v.0 h
