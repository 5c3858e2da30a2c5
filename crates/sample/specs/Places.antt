-- Where the packets of the inputs are given out: a layer's delay behind the frames that they are sent in.
use Rattle.std.specs.Prelude.{ℕ, ◌+◌, ◌-◌, ◌*◌, ◌/◌, ◌%◌, nat_lt, min, if◌then◌else◌}
use Rattle.isdbt_base.specs.declared.kinds.Layer.{Layer}
use Rattle.isdbt_base.specs.declared.kinds.Layer.TheVariants.{A, B, C}
use Rattle.isdbt_base.specs.declared.epoch.At.{At}
use Rattle.isdbt_base.specs.Parameters.{layer_of, number_of}
use Rattle.isdbt_base.specs.Numbers.{packets_per_frame, layer_delay}
use Rattle.sample.specs.declared.places.Share.{Share}
use Rattle.sample.specs.SampleInputs.{input_packets}

-- ---- the layers in the epochs

-- a layer where this holds
abbrev pub share_in : At → Layer → Share
share_in at x = record { start = at.start; packets = number_of (packets_per_frame at.mode) (layer_of at.setting x); delay = number_of (layer_delay at.mode) (layer_of at.setting x) }

-- a layer in the epoch before the switch, and how many input packets it has there
abbrev pub first_share : Layer → Share
first_share A = record { start = 0; packets = 16; delay = 4 }
first_share B = record { start = 0; packets = 288; delay = 2 }
first_share C = record { start = 0; packets = 0; delay = 0 }

abbrev pub first_input : Layer → ℕ
first_input A = 64
first_input B = 1728
first_input C = 0

-- in the epoch from the switch on, which has the other input packets
abbrev pub second_share : Layer → Share
second_share A = record { start = 8; packets = 12; delay = 2 }
second_share B = record { start = 8; packets = 432; delay = 4 }
second_share C = record { start = 8; packets = 0; delay = 0 }

abbrev pub second_input : Layer → ℕ
second_input x = input_packets x - first_input x

-- a layer in frame f
abbrev pub sample_share : Layer → ℕ → Share
sample_share x f = if nat_lt f 8 then first_share x else second_share x

-- ---- places

-- a packet's frame of the output, and its place among the packets of its layer there
pub record Place : Type 0 where
  pub frame : ℕ
  pub index : ℕ

-- where input packet i of an epoch is given out
abbrev pub place_in : Share → ℕ → Place
place_in s i = record { frame = s.start + i / s.packets + s.delay; index = i % s.packets }

-- where input packet i of a layer is given out
abbrev pub place_of : Layer → ℕ → Place
place_of x i = if nat_lt i (first_input x) then place_in (first_share x) i else place_in (second_share x) (i - first_input x)

-- ---- frame by frame

-- how many input packets a frame gives out, where so many are left
abbrev pub due_in : Share → ℕ → ℕ → ℕ
due_in s f left = if nat_lt f (s.start + s.delay) then 0 else min s.packets left

-- how many the frames before frame f give out of an epoch with so many, and of both
abbrev pub given_in : Share → ℕ → ℕ → ℕ
given_in s input f = min input (s.packets * (f - (s.start + s.delay)))

abbrev pub given_before : Layer → ℕ → ℕ
given_before x f = given_in (first_share x) (first_input x) f + given_in (second_share x) (second_input x) f
