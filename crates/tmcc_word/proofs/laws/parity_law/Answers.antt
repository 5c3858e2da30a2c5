use Rattle.std.proofs.Common.{sym, ◌∙◌}
use Rattle.tmcc_word.proofs.Codewords.{codeword-remainder, remainder-codeword, codeword-sum, codeword-parity, parity-only}
use Rattle.tmcc_word.proofs.laws.parity_law.Goals as goal

pub returns : goal.returns
returns c = record {
  test = λ bits. (codeword-remainder bits, remainder-codeword bits);
  sums = λ xs ys e f. codeword-sum xs ys (e ∙ sym f);
  fits = codeword-parity;
  only = parity-only;
}
