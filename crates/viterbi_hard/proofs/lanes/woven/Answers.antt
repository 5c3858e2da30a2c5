use Rattle.viterbi_hard.proofs.LaneLaws.{woven_zero, woven_one}
use Rattle.viterbi_hard.proofs.lanes.woven.Goals as goal

pub returns : goal.returns
returns c = record {
  zeros = woven_zero c.args.zeros c.args.ones c.fits-zeros.0 c.fits-ones.0;
  ones = woven_one c.args.zeros c.args.ones c.fits-zeros.0 c.fits-ones.0;
}
