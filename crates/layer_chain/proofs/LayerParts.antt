-- The parts of the coder of a layer, when its mode and its layer are known by other names.
use Rattle.std.proofs.Common.{◌≡◌, ℕ, List, sym, subst}
use Rattle.isdbt_base.specs.declared.kinds.Mode.{Mode}
use Rattle.isdbt_base.specs.LayerParameters.{LayerParameters}
use Rattle.layer_chain.specs.LayerCoder.{mode_of, layer_of, PartsStandFor, StandsFor}
use Rattle.layer_chain.specs.declared.layer_coder.LayerCoder.{LayerCoder}

-- parts that stand as the modes and layers of a coder say
pub moved : (s : LayerCoder) (packet : ℕ → List ℕ) (frames : ℕ) (mode : Mode) (l : LayerParameters) → mode_of s ≡ mode → layer_of s ≡ l → PartsStandFor mode l s packet frames → StandsFor s packet frames
moved s packet frames mode l m k stands = subst (λ x. PartsStandFor x (layer_of s) s packet frames) (sym m) (subst (λ x. PartsStandFor mode x s packet frames) (sym k) stands)
