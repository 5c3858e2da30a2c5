use Rattle.viterbi_hard.proofs.LaneLaws.{natural_low, natural_lane}
use Rattle.viterbi_hard.proofs.least.lane_of.Goals as goal

pub returns : goal.returns
returns c = record { within = natural_low c.args.number; lane = λ i h e. natural_lane c.args.number i h e }
