-- What `code` reads of what `remux` writes.
use Rattle.std.specs.Prelude.{◌≡◌, ℕ, ◌<◌, Some, List, length}
use Rattle.isdbt_base.specs.declared.kinds.Layer.{Layer}
use Rattle.isdbt_base.specs.LayerParameters.{LayerParameters}
use Rattle.isdbt_base.specs.Parameters.{layer_of}
use Rattle.isdbt_base.specs.Numbers.{packets_per_frame}
use Rattle.isdbt_base.specs.Plans.{Schedule, at_frame}
use Rattle.isdbt_base.specs.Frames.{FramePackets}
use Rattle.isdbt_base.specs.Outcome.{product}
use Rattle.remux_core.specs.Multiplex.{broadcast}

-- the broadcast packets of the first so many frames
abbrev pub broadcast_stream : Schedule → FramePackets → ℕ → List ℕ
broadcast_stream p frames count = product (broadcast p frames) count

-- the layers' packets of the first so many frames have 188 bytes
abbrev pub HaveSize : Schedule → FramePackets → ℕ → Type 0
HaveSize p frames count = (f j : ℕ) (x : Layer) (l : LayerParameters) → f < count → layer_of (at_frame p f).setting x ≡ Some l → j < packets_per_frame (at_frame p f).mode l
    → length (frames f x j) ≡ 188
