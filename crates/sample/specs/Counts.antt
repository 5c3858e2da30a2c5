-- How far the counting of both layers has come.
use Rattle.std.specs.Prelude.{ℕ, ◌*◌}
use Rattle.isdbt_base.specs.declared.kinds.Layer.TheVariants.{A, B}
use Rattle.sample.specs.declared.running.Counts.{Counts}
use Rattle.sample.specs.SampleInputs.{input_packets}
use Rattle.sample.specs.LayerCounts.{IsBounded, IsCounted}

-- what was counted is within what the inputs and so many frames can bring
pub record AreBounded (f : ℕ) (c : Counts) : Type 0 where
  pub a : IsBounded (188 * input_packets A) f c.a
  pub b : IsBounded (188 * input_packets B) f c.b

-- all that the frames before frame f give out was counted
pub record AreCounted (number f : ℕ) (c : Counts) : Type 0 where
  pub a : IsCounted number A f c.a
  pub b : IsCounted number B f c.b
