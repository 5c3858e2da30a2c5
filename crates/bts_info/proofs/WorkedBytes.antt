-- Worked information bytes.
use Rattle.std.proofs.Common.{◌≡◌, refl, [], ◌∷◌, Some, None, true, false}
use Rattle.isdbt_base.specs.declared.kinds.Layer.TheVariants.{A}
use Rattle.bts_info.specs.Information.{information, info_for}

first_slot : information (info_for (record { odd = false; first = true; start_up = false; countdown = 15 }) None 0) ≡ 0xA6 ∷ 0x0F ∷ 0xE0 ∷ 0x00 ∷ 0xFF ∷ 0xFF ∷ 0xFF ∷ 0xFF ∷ []
first_slot = refl

slot_eight : information (info_for (record { odd = false; first = true; start_up = false; countdown = 15 }) (Some A) 8) ≡ 0xA0 ∷ 0x1F ∷ 0xE0 ∷ 0x08 ∷ 0xFF ∷ 0xFF ∷ 0xFF ∷ 0xFF ∷ []
slot_eight = refl
