use Rattle.std.proofs.Common.{arith, ◌∙◌, ap, get_or, zero-add}
use Rattle.viterbi_hard.proofs.HalfLaws.{part_at}
use Rattle.viterbi_hard.proofs.lanes.low_half.Goals as goal

pub returns : goal.returns
returns c = λ i h. part_at c.args.v 0 32 i (omega (arith, c.fits-v.0)) h ∙ ap (λ k. get_or c.args.v k 0) (zero-add i)
