use Rattle.layer_chain.proofs.StableWords.{unit_word-same, given_out-same}
use Rattle.layer_chain.proofs.decoder_laws.window_law.Goals as goal

pub returns : goal.returns
returns c = record {
  words = unit_word-same c.args.mode;
  given = given_out-same c.args.mode;
}
