use Rattle.layer_chain.proofs.CleanWords.{clean_word}
use Rattle.layer_chain.proofs.NearAnswers.{clean_answer}
use Rattle.layer_chain.proofs.decoder_laws.clean_words_law.Goals as goal

pub returns : goal.returns
returns c = record {
  words = clean_word c.args.mode c.args.layer;
  answers = clean_answer c.args.mode c.args.layer;
}
