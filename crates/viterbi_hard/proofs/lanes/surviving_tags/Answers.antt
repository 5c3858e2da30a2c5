use Rattle.std.proofs.Common.{◌∙◌, get_or, leb}
use Rattle.viterbi_hard.proofs.HalfLaws.{cond_turned, selected_at}
use Rattle.viterbi_hard.proofs.lanes.surviving_tags.Goals as goal

pub returns : goal.returns
returns c = λ i h.
    selected_at leb c.args.even c.args.odd c.args.even_tags c.args.odd_tags 32 i c.fits-even.0 c.fits-odd.0 c.fits-even_tags.0 c.fits-odd_tags.0 h
    ∙ cond_turned (get_or c.args.even i 0) (get_or c.args.odd i 0) (get_or c.args.even_tags i 0) (get_or c.args.odd_tags i 0)
