use Rattle.layer_chain.proofs.NearAnswers.{near_codeword-is, near_codeword-one}
use Rattle.layer_chain.proofs.decoder_laws.near_codeword_law.Goals as goal

pub returns : goal.returns
returns c near = (near_codeword-is c.args.word.now near, near_codeword-one c.args.word.now near c.requires)
