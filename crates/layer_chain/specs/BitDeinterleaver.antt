-- Bit deinterleaving of a layer, for cells of 2, 4 or 6 bits.
use Rattle.std.specs.Prelude.{ℕ, Bool, List, [], slice_index_or}
use Rattle.delay_line.specs.Stages.{Layout}
use Rattle.bit_inter.specs.Layouts.{deinter_layout}
use Rattle.layer_chain.specs.declared.bit_deinterleaver.BitDeinterleaver.{BitDeinterleaver}
use Rattle.layer_chain.specs.declared.bit_deinterleaver.BitDeinterleaver.TheVariants.{Two, Four, Six}

abbrev pub layout_of : BitDeinterleaver → Layout Bool
layout_of (Two stage) = deinter_layout 2
layout_of (Four stage) = deinter_layout 4
layout_of (Six stage) = deinter_layout 6

-- what the path of each bit of a cell holds
abbrev pub held_of : BitDeinterleaver → ℕ → List Bool
held_of (Two stage) r = slice_index_or stage r []
held_of (Four stage) r = slice_index_or stage r []
held_of (Six stage) r = slice_index_or stage r []
