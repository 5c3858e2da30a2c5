use Rattle.std.proofs.Common.{◌∙◌, get_or}
use Rattle.viterbi_hard.proofs.HalfLaws.{chosen_at, cond_swap}
use Rattle.viterbi_hard.proofs.lanes.surviving_metrics.Goals as goal

pub returns : goal.returns
returns c = λ i h.
    chosen_at c.args.even c.args.odd c.args.even c.args.odd 32 i c.fits-even.0 c.fits-odd.0 c.fits-even.0 c.fits-odd.0 h
    ∙ cond_swap (get_or c.args.even i 0) (get_or c.args.odd i 0)
