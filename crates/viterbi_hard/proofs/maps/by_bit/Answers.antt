use Rattle.viterbi_hard.proofs.LaneLaws.{by_bit_at}
use Rattle.viterbi_hard.proofs.maps.by_bit.Goals as goal

pub returns : goal.returns
returns c = λ i h. by_bit_at c.args.places c.args.without c.args.with c.args.bit i c.fits-places.0 c.fits-without.0 c.fits-with.0 h
