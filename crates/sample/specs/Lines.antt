-- The text of what a sample counts.
use Rattle.std.specs.Prelude.{ℕ, List, [], ◌∷◌, ◌++◌, codes, decimal}
use Rattle.isdbt_base.specs.declared.kinds.Layer.TheVariants.{A, B}
use Rattle.sample.specs.declared.counting.Tally.{Tally}
use Rattle.sample.specs.SamplePlan.{sample_frames}
use Rattle.sample.specs.SampleInputs.{input_packets}

-- a layer's line, by its letter, the count of its input packets and what was counted
abbrev pub tally_line : List ℕ → ℕ → Tally → List ℕ
tally_line letter sent t =
    letter ++ codes " sent " ++ decimal sent ++ codes " met " ++ decimal t.met ++ codes " marked " ++ decimal t.marked ++ codes " sum " ++ decimal t.sum ++ 10 ∷ []

-- the three lines of what was counted of layers A and B
abbrev pub tallies_text : Tally → Tally → List ℕ
tallies_text a b = (codes "frames " ++ decimal sample_frames ++ 10 ∷ []) ++ tally_line (codes "A") (input_packets A) a ++ tally_line (codes "B") (input_packets B) b
