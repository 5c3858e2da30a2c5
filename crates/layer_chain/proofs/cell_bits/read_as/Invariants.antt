use Rattle.std.proofs.Common.{◌≡◌, ℕ, ◌<◌, Some, get_or}
use Rattle.std.specs.Prelude.{slice_get}
use Rattle.std.specs.Option.{option_map}
use Rattle.cell_map.specs.Levels.{bits_of}
use Rattle.layer_chain.proofs.cell_bits.read_as.Given as goal

abbrev pub invariant-loop-place : goal.invariant-loop-place
invariant-loop-place l = (w : ℕ) → w < l.place → option_map (bits_of l.modulation) (slice_get l.cells w) ≡ Some (get_or l.numbers w 0)
