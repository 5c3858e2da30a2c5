use Rattle.std.proofs.Common.{arith, Fits, w8}
use Rattle.std.proofs.lemmas.Simd.{Each1-get_or}
use Rattle.viterbi_hard.proofs.LaneLaws.{lowered_at}
use Rattle.viterbi_hard.proofs.lanes.lowered.Goals as goal

pub returns : goal.returns
returns c = λ n h. lowered_at c.args.v c.args.least n c.fits-v.0 h (c.requires n 0 (omega (arith, c.fits-v.0))) (Each1-get_or (Fits w8) c.args.v n 0 (omega (arith, c.fits-v.0)) c.fits-v.1).fits
