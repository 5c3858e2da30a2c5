use Rattle.viterbi_hard.proofs.LaneLaws.{places_ok, within_at}
use Rattle.viterbi_hard.proofs.maps.within_quarter.Goals as goal

pub swizzle : goal.swizzle
swizzle c = places_ok c.args.places c.fits-places

pub returns : goal.returns
returns c = λ i h. within_at c.args.quarters c.args.places i c.fits-places h
