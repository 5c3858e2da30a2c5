-- When a plan takes one more switch, and why not.
use Rattle.std.specs.Prelude.{ℕ, ◌++◌, List, [], ◌∷◌, length, Bool, true, false, ◌==◌, ◌||◌, not, nat_le, nat_lt, is_some, if◌then◌else◌, Option, Some, None}
use Rattle.isdbt_base.specs.declared.kinds.Layer.{Layer}
use Rattle.isdbt_base.specs.declared.kinds.Layer.TheVariants.{B, C}
use Rattle.isdbt_base.specs.declared.fault.PlanFault.{PlanFault}
use Rattle.isdbt_base.specs.declared.fault.PlanFault.TheVariants.{TooMany, OutOfRange, NotRising, OtherLayers}
use Rattle.isdbt_base.specs.Parameters.{Parameters}
use Rattle.isdbt_base.specs.Plans.{Transmission, Switch, Schedule}
use Rattle.isdbt_base.specs.Epochs.{last_start}

-- both or neither
abbrev pub alike : Bool → Bool → Bool
alike true b = b
alike false b = not b

-- the first layer that one of two settings uses and the other does not
abbrev pub other_layer : Parameters → Parameters → Option Layer
other_layer s u = if not (alike (is_some s.b) (is_some u.b)) then Some B else if not (alike (is_some s.c) (is_some u.c)) then Some C else None

-- why a plan takes no switch to this setting at this frame: the first cause in this order
abbrev pub layers_fault : Option Layer → Option PlanFault
layers_fault None = None
layers_fault (Some x) = Some (OtherLayers x)

abbrev pub switch_fault : Schedule → ℕ → Parameters → Option PlanFault
switch_fault p frame s =
    if nat_le 7 (length p.switches) then Some TooMany
    else if (frame == 0) || nat_lt 16777215 frame then Some (OutOfRange frame)
    else if nat_le frame (last_start p) then Some (NotRising (last_start p))
    else layers_fault (other_layer p.first.setting s)

-- the plan with one more switch
abbrev pub with_switch : Schedule → Switch → Schedule
with_switch p w = record { first = p.first; switches = p.switches ++ w ∷ [] }
