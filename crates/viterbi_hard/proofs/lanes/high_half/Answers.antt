use Rattle.std.proofs.Common.{arith}
use Rattle.viterbi_hard.proofs.HalfLaws.{part_at}
use Rattle.viterbi_hard.proofs.lanes.high_half.Goals as goal

pub returns : goal.returns
returns c = λ i h. part_at c.args.v 32 32 i (omega (arith, c.fits-v.0)) h
