-- The plan of all samples.
use Rattle.std.specs.Prelude.{ℕ, true, Some, None, [], ◌∷◌}
use Rattle.isdbt_base.specs.declared.kinds.Mode.TheVariants.{M1}
use Rattle.isdbt_base.specs.declared.kinds.Guard.TheVariants.{G4}
use Rattle.isdbt_base.specs.declared.kinds.Modulation.{Modulation}
use Rattle.isdbt_base.specs.declared.kinds.Modulation.TheVariants.{Qpsk, Qam16}
use Rattle.isdbt_base.specs.declared.kinds.Rate.{Rate}
use Rattle.isdbt_base.specs.declared.kinds.Rate.TheVariants.{R12, R23, R34}
use Rattle.isdbt_base.specs.declared.kinds.DepthCode.{DepthCode}
use Rattle.isdbt_base.specs.declared.kinds.DepthCode.TheVariants.{D0, D1}
use Rattle.isdbt_base.specs.LayerParameters.{LayerParameters}
use Rattle.isdbt_base.specs.Parameters.{Parameters}
use Rattle.isdbt_base.specs.Plans.{Transmission, Schedule}

abbrev pub layer_with : ℕ → Modulation → Rate → DepthCode → LayerParameters
layer_with segments modulation rate depth = record { segments = segments; modulation = modulation; rate = rate; depth = depth }

-- two layers of 1 and 12 segments with partial reception
abbrev pub two_layers : LayerParameters → LayerParameters → Parameters
two_layers a b = record { partial = true; a = a; b = Some b; c = None }

-- A:1:qpsk:2/3:4:partial,B:12:16qam:1/2:0
abbrev pub first_setting : Parameters
first_setting = two_layers (layer_with 1 Qpsk R23 D1) (layer_with 12 Qam16 R12 D0)

-- A:1:qpsk:1/2:0:partial,B:12:16qam:3/4:4
abbrev pub second_setting : Parameters
second_setting = two_layers (layer_with 1 Qpsk R12 D0) (layer_with 12 Qam16 R34 D1)

-- all is sent in mode 1 with guard interval 1/4
abbrev pub sent_with : Parameters → Transmission
sent_with s = record { mode = M1; guard = G4; setting = s }

-- the second setting is sent from frame 8 on
unfoldable pub sample_plan : Schedule
sample_plan = record { first = sent_with first_setting; switches = record { frame = 8; after = sent_with second_setting } ∷ [] }

-- all frames: eight, three with the rest of the input, and four more
abbrev pub sample_frames : ℕ
sample_frames = 15
