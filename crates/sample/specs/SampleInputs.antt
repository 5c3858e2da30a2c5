-- The made inputs of a sample.
use Rattle.std.specs.Prelude.{ℕ, ◌+◌, List}
use Rattle.isdbt_base.specs.declared.kinds.Layer.{Layer}
use Rattle.isdbt_base.specs.declared.kinds.Layer.TheVariants.{A, B, C}
use Rattle.sample.specs.Generator.{made_input}

-- packets of a layer's input
abbrev pub input_packets : Layer → ℕ
input_packets A = 100
input_packets B = 3000
input_packets C = 0

-- where a layer's generator begins
abbrev pub seed_of : ℕ → Layer → ℕ
seed_of number A = number
seed_of number B = number + 1
seed_of number C = number

-- the inputs of the layers
unfoldable pub sample_input : ℕ → Layer → List ℕ
sample_input number x = made_input (seed_of number x) (input_packets x)
