-- What the coding of a layer keeps of the packets that it has seen.
use Rattle.std.specs.Prelude.{◌≡◌, ℕ, ◌+◌, ◌*◌, ◌<◌, List, [], slice_index_or}
use Rattle.isdbt_base.specs.declared.kinds.Mode.{Mode}
use Rattle.isdbt_base.specs.LayerParameters.{LayerParameters}
use Rattle.isdbt_base.specs.Numbers.{packets_per_frame}
use Rattle.delay_line.specs.Adjusted.{AdjustedStandsFor}
use Rattle.byte_inter.specs.BytePlaces.{byte_adjustment}
use Rattle.byte_inter.specs.Layouts.{inter_layout}
use Rattle.conv_punct.specs.StandsFor as inner
use Rattle.layer_chain.specs.SentBytes.{sent_byte}
use Rattle.layer_chain.specs.Streams.{first_of}
use Rattle.layer_chain.specs.CodedBits.{layer_byte}
use Rattle.layer_chain.specs.declared.coded_layer.CodedLayer.{CodedLayer}

-- the layer that is coded, and its mode
abbrev pub mode_of : CodedLayer → Mode
mode_of s = s.mode

abbrev pub layer_of : CodedLayer → LayerParameters
layer_of s = s.layer

-- packets of the layer in a frame
abbrev pub packets_of : CodedLayer → ℕ
packets_of s = packets_per_frame s.mode s.layer

-- each part is as the bytes of the first so many frames leave it
pub record StandsFor (s : CodedLayer) (packet : ℕ → List ℕ) (frames : ℕ) : Type 0 where
  pub sender : AdjustedStandsFor (inter_layout 12 17) (byte_adjustment (packets_of s)) s.interleaver.line (λ p. slice_index_or s.interleaver.stage p []) (first_of (sent_byte (packets_of s) packet) (204 * packets_of s * frames))
  pub encoder : inner.StandsFor s.encoder (first_of (layer_byte (packets_of s) packet) (204 * packets_of s * frames))

-- a frame's packets are those of the epoch
pub record IsFrame (t : ℕ) (packet : ℕ → List ℕ) (frame : ℕ) (packets : List (List ℕ)) : Type 0 where
  pub each : (j : ℕ) → j < t → packet (t * frame + j) ≡ slice_index_or packets j []
