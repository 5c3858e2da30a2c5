-- How far the coded bits of some inputs are from bits that were read.
use Rattle.std.specs.Prelude.{ℕ, Bool, false, List, slice_index_or, count_by}
use Rattle.std.specs.List.{range_with_len}
use Rattle.isdbt_base.specs.declared.kinds.Rate.{Rate}
use Rattle.isdbt_base.specs.Bits.{◌⊕◌}
use Rattle.conv_punct.specs.CodedBits.{coded_bit, coded_len}

-- input i of a list of inputs
abbrev pub input_of : List Bool → ℕ → Bool
input_of inputs i = slice_index_or inputs i false

-- the cost of inputs over so many steps: at how many places their coded bits differ from the bits that were read
unfoldable pub coded_cost : Rate → (ℕ → Bool) → ℕ → (ℕ → Bool) → ℕ
coded_cost rate read steps u = count_by (λ c. coded_bit rate u c ⊕ read c) (range_with_len 0 (coded_len rate steps))
