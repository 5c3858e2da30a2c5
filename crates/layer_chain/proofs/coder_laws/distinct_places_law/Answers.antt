use Rattle.layer_chain.proofs.ReadBack.{distinct}
use Rattle.layer_chain.proofs.coder_laws.distinct_places_law.Goals as goal

pub returns : goal.returns
returns c = distinct c.args.mode c.args.layer
