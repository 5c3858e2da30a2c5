-- What the inputs of a sample show.
use Rattle.std.specs.Prelude.{ℕ}
use Rattle.sample.specs.declared.inputs.Inputs.{Inputs}

-- the number of the sample
abbrev pub number_of : Inputs → ℕ
number_of i = i.number
