use Rattle.layer_chain.proofs.NearAnswers.{near_answer}
use Rattle.layer_chain.proofs.decoder_laws.near_answer_law.Goals as goal

pub returns : goal.returns
returns c packet = near_answer c.args.word.now packet c.requires
