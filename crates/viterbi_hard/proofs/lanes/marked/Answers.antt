use Rattle.viterbi_hard.proofs.LaneLaws.{marked_at}
use Rattle.viterbi_hard.proofs.lanes.marked.Goals as goal

pub returns-then-age-eq1-clause-second : goal.returns-then-age-eq1-clause-second
returns-then-age-eq1-clause-second c = λ e n h low. marked_at c.args.tags n c.fits-tags.0 h low
