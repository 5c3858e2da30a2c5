use Rattle.layer_chain.proofs.StableBits.{layer_coded_bit-same}
use Rattle.layer_chain.proofs.coder_laws.prefix_law.Goals as goal

pub returns : goal.returns
returns c = layer_coded_bit-same c.args.mode c.args.layer
