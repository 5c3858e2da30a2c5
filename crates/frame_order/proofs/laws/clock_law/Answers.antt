use Rattle.frame_order.proofs.ClockLaws.{clock_of-same}
use Rattle.frame_order.proofs.laws.clock_law.Goals as goal

pub returns : goal.returns
returns c = λ e. clock_of-same c.args.mode c.args.guard c.args.setting.now c.acceptance_law.ensures c.args.first c.args.second c.requires.first c.requires.second e
