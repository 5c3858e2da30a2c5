use Rattle.viterbi_hard.proofs.LaneLaws.{lanes_at}
use Rattle.viterbi_hard.proofs.maps.lanes_of.Goals as goal

pub returns : goal.returns
returns c = λ i h. lanes_at c.args.tags i c.fits-tags.0 h
