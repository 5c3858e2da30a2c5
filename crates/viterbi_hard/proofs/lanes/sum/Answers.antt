use Rattle.viterbi_hard.proofs.LaneLaws.{added_at}
use Rattle.viterbi_hard.proofs.lanes.sum.Goals as goal

pub returns : goal.returns
returns c = λ n h lt. added_at c.args.a c.args.b 32 n c.fits-a.0 c.fits-b.0 h lt
