-- What the channel coder of an epoch keeps of the frames that it has seen.
use Rattle.std.specs.Prelude.{◌≡◌, ℕ, ◌<◌, List}
use Rattle.isdbt_base.specs.declared.kinds.Mode.{Mode}
use Rattle.isdbt_base.specs.declared.kinds.Guard.{Guard}
use Rattle.isdbt_base.specs.declared.kinds.Layer.{Layer}
use Rattle.isdbt_base.specs.declared.kinds.Layer.TheVariants.{A, B, C}
use Rattle.isdbt_base.specs.Parameters.{Parameters, layer_of, number_of}
use Rattle.isdbt_base.specs.Numbers.{packets_per_frame}
use Rattle.isdbt_base.specs.Frames.{FramePackets}
use Rattle.coder_core.specs.InputFrames.{packet_in}
use Rattle.coder_core.specs.LayerPart.{PartStandsFor}
use Rattle.coder_core.specs.declared.coder.Coder.{Coder}

-- what the epoch sends
abbrev pub mode_of : Coder → Mode
mode_of c = c.mode

abbrev pub guard_of : Coder → Guard
guard_of c = c.guard

abbrev pub setting_of : Coder → Parameters
setting_of c = c.setting

-- the packets of frame f are those in the bytes of a frame
pub record IsFrameOf (s : Parameters) (mode : Mode) (frame : List ℕ) (frames : FramePackets) (f : ℕ) : Type 0 where
  pub each : (x : Layer) (j : ℕ) → j < number_of (packets_per_frame mode) (layer_of s x) → frames f x j ≡ packet_in frame x j

-- the coder of each used layer is as the first g frames of the epoch that begins at a frame leave it
pub record StandsFor (c : Coder) (frames : FramePackets) (start g : ℕ) : Type 0 where
  pub a_stands : PartStandsFor c.a A frames start g
  pub b_stands : PartStandsFor c.b B frames start g
  pub c_stands : PartStandsFor c.c C frames start g
