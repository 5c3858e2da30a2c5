use Rattle.std.proofs.Common.{arith, refl}
use Rattle.viterbi_hard.proofs.HalfLaws.{folded_here, folded_in, folded_there, turn_one}
use Rattle.viterbi_hard.proofs.least.folded_by_one.Goals as goal

pub returns : goal.returns
returns c = record {
  here = λ i h. folded_here c.args.v 1 c.fits-v.0 refl turn_one i (omega arith);
  there = λ i h. folded_there c.args.v 1 c.fits-v.0 refl turn_one i (omega arith);
  lane = folded_in c.args.v 1 c.fits-v.0 refl turn_one;
}
