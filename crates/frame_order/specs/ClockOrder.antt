-- The packets of a frame in the order of their clocks.
use Rattle.std.specs.Prelude.{ℕ, ◌+◌, List, map}
use Rattle.std.specs.List.Sorted.{IsPermutation, IsStrictlyIncreasing}
use Rattle.isdbt_base.specs.declared.kinds.Mode.{Mode}
use Rattle.isdbt_base.specs.declared.kinds.Guard.{Guard}
use Rattle.isdbt_base.specs.declared.kinds.Layer.{Layer}
use Rattle.isdbt_base.specs.LayerParameters.{LayerParameters}
use Rattle.isdbt_base.specs.Parameters.{Parameters}
use Rattle.frame_order.specs.declared.mark.Mark.{Mark}
use Rattle.frame_order.specs.declared.clocks.Timed.{Timed}
use Rattle.frame_order.specs.Order.{all_marks, clock_of, cell_clock, last_cell}
use Rattle.frame_order.specs.Places.{place_of}

-- packet j of a layer that is used, where so many cells and packets of other layers stand before the layer's
abbrev pub timed_in : Mode → Guard → Layer → LayerParameters → ℕ → ℕ → ℕ → Timed
timed_in mode guard x l cells packets j = record {
  clock = cell_clock mode guard l cells (last_cell l j);
  place = packets + j;
  mark = record { layer = x; index = j };
}

-- a packet with its clock and its place
abbrev pub timed_of : Mode → Guard → Parameters → Mark → Timed
timed_of mode guard s m = record { clock = clock_of mode guard s m; place = place_of mode s m; mark = m }

-- all packets of the frame, by rising clocks
pub record IsClockOrder (mode : Mode) (guard : Guard) (s : Parameters) (items : List Timed) : Type 0 where
  pub permutation : IsPermutation (map (timed_of mode guard s) (all_marks mode s)) items
  pub rising : IsStrictlyIncreasing (map (λ t. t.clock) items)
