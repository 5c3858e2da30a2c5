use Rattle.std.proofs.Common.{◌-◌}
use Rattle.viterbi_hard.proofs.search.Search.+go.Given as goal

abbrev pub decreases-go : goal.decreases-go
decreases-go l = l.steps - l.step
