-- The parts of the decoder of a layer, when its mode and its layer are known by other names.
use Rattle.std.proofs.Common.{◌≡◌, ℕ, sym, subst}
use Rattle.isdbt_base.specs.declared.kinds.Mode.{Mode}
use Rattle.isdbt_base.specs.LayerParameters.{LayerParameters}
use Rattle.layer_chain.specs.LayerDecoder.{mode_of, layer_of, PartsStandFor, StandsFor}
use Rattle.layer_chain.specs.declared.layer_decoder.LayerDecoder.{LayerDecoder}

-- parts that stand as the mode and layer of a decoder say
pub decoder_moved : (s : LayerDecoder) (cell : ℕ → ℕ → ℕ) (frames : ℕ) (mode : Mode) (l : LayerParameters) → mode_of s ≡ mode → layer_of s ≡ l → PartsStandFor mode l s cell frames → StandsFor s cell frames
decoder_moved s cell frames mode l m k stands = subst (λ x. PartsStandFor x (layer_of s) s cell frames) (sym m) (subst (λ x. PartsStandFor mode x s cell frames) (sym k) stands)
