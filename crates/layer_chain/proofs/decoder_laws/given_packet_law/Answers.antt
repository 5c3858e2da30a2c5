use Rattle.layer_chain.proofs.NearAnswers.{given_out-packet}
use Rattle.layer_chain.proofs.decoder_laws.given_packet_law.Goals as goal

pub returns : goal.returns
returns c = given_out-packet c.args.mode c.args.layer
