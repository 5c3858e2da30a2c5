-- Worked slots.
use Rattle.std.proofs.Common.{◌≡◌, refl, Some, None}
use Rattle.isdbt_base.specs.declared.kinds.Mode.TheVariants.{M1, M3}
use Rattle.isdbt_base.specs.declared.kinds.Guard.TheVariants.{G4, G8}
use Rattle.isdbt_base.specs.declared.kinds.Layer.TheVariants.{A, B}
use Rattle.frame_order.specs.Slots.{earlier, ready_slot, slot_for}
use Rattle.frame_order.specs.Order.{slot_of, mark_at}
use Rattle.frame_order.specs.WorkedSettings.{one_layer, two_layers}

slot_0 : slot_of M1 G4 one_layer (record { layer = A; index = 0 }) ≡ 8
unfolding slot_of slot_for ready_slot earlier
slot_0 = refl

slot_1 : slot_of M1 G4 one_layer (record { layer = A; index = 1 }) ≡ 15
unfolding slot_of slot_for ready_slot earlier
slot_1 = refl

slot_155 : slot_of M1 G4 one_layer (record { layer = A; index = 155 }) ≡ 1277
unfolding slot_of slot_for ready_slot earlier
slot_155 = refl

-- the packet in slot 8, and none in slot 9
at_8 : mark_at M1 G4 one_layer 8 ≡ Some (record { layer = A; index = 0 })
unfolding mark_at slot_of slot_for ready_slot earlier
at_8 = refl

two_layers_b0 : slot_of M3 G8 two_layers (record { layer = B; index = 0 }) ≡ 2
unfolding slot_of slot_for ready_slot earlier
two_layers_b0 = refl

two_layers_b1 : slot_of M3 G8 two_layers (record { layer = B; index = 1 }) ≡ 3
unfolding slot_of slot_for ready_slot earlier
two_layers_b1 = refl

-- slot 0 has no layer
none_at_0 : mark_at M1 G4 one_layer 0 ≡ None
unfolding mark_at slot_of slot_for ready_slot earlier
none_at_0 = refl

two_layers_a0 : slot_of M3 G8 two_layers (record { layer = A; index = 0 }) ≡ 68
unfolding slot_of slot_for ready_slot earlier
two_layers_a0 = refl
