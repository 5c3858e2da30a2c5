-- The coded bits of a layer in an epoch.
use Rattle.std.specs.Prelude.{ℕ, Bool, List}
use Rattle.isdbt_base.specs.declared.kinds.Mode.{Mode}
use Rattle.isdbt_base.specs.LayerParameters.{LayerParameters}
use Rattle.isdbt_base.specs.Numbers.{packets_per_frame}
use Rattle.byte_inter.specs.BytePlaces.{interleaved}
use Rattle.conv_punct.specs.CodedBits.{bit_of, coded_bit}
use Rattle.layer_chain.specs.SentBytes.{sent_byte}

-- the bytes of a layer of t packets a frame behind delay adjustment and byte interleaving
abbrev pub layer_byte : ℕ → (ℕ → List ℕ) → ℕ → ℕ
layer_byte t packet q = interleaved (sent_byte t packet) t q

-- coded bit c of the packets of a layer in an epoch
unfoldable pub layer_coded_bit : Mode → LayerParameters → (ℕ → List ℕ) → ℕ → Bool
layer_coded_bit mode l packet c = coded_bit l.rate (bit_of (layer_byte (packets_per_frame mode l) packet)) c
