-- The time deinterleaver of a layer: what it is and holds.
use Rattle.std.specs.Prelude.{ℕ, List, [], slice_index_or}
use Rattle.isdbt_base.specs.Numbers.{carriers}
use Rattle.delay_line.specs.Stages.{Layout}
use Rattle.time_inter.specs.Layouts.{layer_deinter_layout}
use Rattle.time_inter.specs.declared.layer_deinter.LayerDeinter.{LayerDeinter}

-- its length, the mode's carriers and its segments
abbrev pub layout_of : LayerDeinter → Layout ℕ
layout_of s = layer_deinter_layout s.length (carriers s.mode) s.segments

-- what the path of each cell of a symbol holds
abbrev pub held_of : LayerDeinter → ℕ → List ℕ
held_of s w = slice_index_or s.bank w []
