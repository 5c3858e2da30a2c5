use Rattle.std.proofs.Common.{arith, length, ◌<◌, ◌≡◌, None, rules}
use Rattle.isdbt_base.specs.Plans.{Switch}
use Rattle.isdbt_base.specs.Epochs.{last_start}
use Rattle.isdbt_base.specs.Switching.{other_layer}
use Rattle.isdbt_base.proofs.PlanEpochs.{plan-append, same_layers}
use Rattle.isdbt_base.proofs.plan.Plan.add_switch_at.Goals as goal

pub push-requires : goal.push-requires
push-requires c =
    let few : length c.args.self.now.switches < 7 = search rules in
    let later : last_start c.args.self.now < c.args.frame = search rules in
    let alike : other_layer c.args.self.now.first.setting c.args.setting ≡ None = search rules in
    plan-append c.args.self.now _ c.acceptance_law.ensures few later (omega arith) c.acceptance_law-2.ensures (same_layers c.args.self.now.first.setting c.args.setting alike)
