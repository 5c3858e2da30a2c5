use Rattle.layer_chain.proofs.ReadBack.{read_bit-cell_bits_at}
use Rattle.layer_chain.proofs.coder_laws.read_back_law.Goals as goal

pub returns : goal.returns
returns c = read_bit-cell_bits_at c.args.mode c.args.layer
