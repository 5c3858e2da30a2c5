use Rattle.std.proofs.Common.{◌≡◌, ℕ, ◌≤◌, drop}
use Rattle.isdbt_base.specs.Parameters.{layer_of, number_of}
use Rattle.isdbt_base.specs.Numbers.{packets_per_frame, slots_per_frame, carriers}
use Rattle.isdbt_base.specs.Plans.{at_frame, at_from, RisesFrom, KeepsMode, greatest_from}
use Rattle.isdbt_base.specs.Epochs.{last_start_from, last_sent_from}
use Rattle.isdbt_base.proofs.plan.Plan.changes_mode.Given as goal

abbrev pub invariant-loop-switch : goal.invariant-loop-switch
invariant-loop-switch l = (KeepsMode l.self.first l.self.switches → KeepsMode l.before (drop l.switch-index l.self.switches))
    × (KeepsMode l.before (drop l.switch-index l.self.switches) → KeepsMode l.self.first l.self.switches)
