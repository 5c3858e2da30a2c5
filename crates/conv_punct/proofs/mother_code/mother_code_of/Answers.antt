use Rattle.conv_punct.proofs.WordLaws.{x_word-bit, y_word-bit}
use Rattle.conv_punct.proofs.mother_code.mother_code_of.Goals as goal

pub returns : goal.returns
returns c = λ u count i enough newest. record {
  x = λ d h. x_word-bit u i count c.args.inputs d newest enough h;
  y = λ d h. y_word-bit u i count c.args.inputs d newest enough h;
}
