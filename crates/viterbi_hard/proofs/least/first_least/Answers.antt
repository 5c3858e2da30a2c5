use Rattle.std.proofs.Common.{arith}
use Rattle.viterbi_hard.proofs.LaneLaws.{first_lane_at, least_lane_at}
use Rattle.viterbi_hard.proofs.least.first_least.Goals as goal

pub returns-clause-least : goal.returns-clause-least
returns-clause-least c = least_lane_at c.args.v c.numbers_of-numbers.result c.least_of_all-least.result c.least_of_all-number.result c.lane_of.result c.fits-v.0 (omega arith) c.least_of_all-least.ensures.least c.least_of_all-least.ensures.lane c.numbers_of-numbers.ensures c.least_of_all-number.ensures.least c.least_of_all-number.ensures.lane c.lane_of.ensures.lane

pub returns-clause-first : goal.returns-clause-first
returns-clause-first c = first_lane_at c.args.v c.numbers_of-numbers.result c.least_of_all-least.result c.least_of_all-number.result c.lane_of.result c.fits-v.0 (omega arith) c.least_of_all-least.ensures.least c.least_of_all-least.ensures.lane c.numbers_of-numbers.ensures c.least_of_all-number.ensures.least c.least_of_all-number.ensures.lane c.lane_of.ensures.lane
