use Rattle.std.proofs.Common.{arith}
use Rattle.viterbi_hard.proofs.LaneLaws.{labels_at}
use Rattle.viterbi_hard.proofs.maps.labels_of.Goals as goal

pub returns : goal.returns
returns c = λ i h low. labels_at c.args.lanes c.args.tags c.lanes_of-began.result i c.fits-lanes.0 c.fits-tags (omega arith) h (c.lanes_of-began.ensures i h) low
