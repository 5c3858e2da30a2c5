-- The outputs that the code names.
use Rattle.std.specs.Prelude.{ℕ, ◌-◌, Bool}
use Rattle.conv_punct.specs.declared.mother_code.MotherBits.{MotherBits}
use Rattle.conv_punct.specs.declared.pattern.Sent.{Sent}
use Rattle.conv_punct.specs.declared.pattern.Sent.TheVariants.{X, Y}
use Rattle.conv_punct.specs.CodedBits.{Output, x_of, y_of}
use Rattle.conv_punct.specs.MotherCode.{word_bit}

-- the output of the pattern that is meant
abbrev pub output_of : Sent → Output
output_of (X step) = x_of step
output_of (Y step) = y_of step

-- its bit among the outputs of a pattern whose first step has bit `first`
abbrev pub sent_bit : MotherBits → ℕ → Sent → Bool
sent_bit outputs first (X step) = word_bit outputs.x (first - step)
sent_bit outputs first (Y step) = word_bit outputs.y (first - step)
