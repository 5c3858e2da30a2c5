use Rattle.layer_chain.proofs.StableCells.{cell_bits_at-same}
use Rattle.layer_chain.proofs.coder_laws.cell_prefix_law.Goals as goal

pub returns : goal.returns
returns c = cell_bits_at-same c.args.mode c.args.layer
