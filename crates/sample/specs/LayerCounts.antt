-- How far the counting of a layer has come.
use Rattle.std.specs.Prelude.{◌≡◌, ℕ, ◌*◌, ◌≤◌}
use Rattle.isdbt_base.specs.declared.kinds.Layer.{Layer}
use Rattle.sample.specs.declared.layer_counts.LayerCount.{LayerCount}
use Rattle.sample.specs.Places.{given_before}
use Rattle.sample.specs.Tallies.{tally_of}

-- what was counted is within what an input of so many bytes and so many frames can bring
pub record IsBounded (size f : ℕ) (c : LayerCount) : Type 0 where
  pub given : 188 * c.given ≤ size
  pub met : c.tally.met ≤ c.given
  pub sum : c.tally.sum ≤ 47940 * c.given
  pub marked : c.tally.marked ≤ 432 * f

-- all that the frames before frame f give out was counted
pub record IsCounted (number : ℕ) (x : Layer) (f : ℕ) (c : LayerCount) : Type 0 where
  pub given : c.given ≡ given_before x f
  pub tally : c.tally ≡ tally_of number x (given_before x f) f
