use Rattle.isdbt_base.proofs.NumberLaws.{total-below_slots}
use Rattle.isdbt_base.proofs.setting.Setting.total_law.Goals as goal

pub returns : goal.returns
returns c = total-below_slots c.args.mode c.args.guard c.args.self.now c.acceptance_law.ensures
