use Rattle.std.proofs.Common.{◌≡◌, ℕ, ◌%◌, ◌^◌, ◌<◌, Some, get_or}
use Rattle.std.specs.Prelude.{slice_get}
use Rattle.isdbt_base.specs.Numbers.{cell_bits}
use Rattle.cell_map.specs.Levels.{cell_of}
use Rattle.layer_chain.proofs.cell_numbers.map_each.Given as goal

abbrev pub invariant-loop-cell : goal.invariant-loop-cell
invariant-loop-cell l = (e : ℕ) → e < l.cell → slice_get l.out e ≡ Some (cell_of l.modulation (get_or l.numbers e 0 % 2 ^ cell_bits l.modulation))
