use Rattle.sample.proofs.PlanFrames.{plan-made}
use Rattle.sample.proofs.plan.sample_plan.Goals as goal

pub returns : goal.returns
returns c = plan-made c.first_setting.result c.second_setting.result c.new-plan.result c.add_switch.new.self c.first_setting.ensures c.second_setting.ensures c.new-plan.ensures c.in-Ok.ensures.1
