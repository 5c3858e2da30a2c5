use Rattle.seg_receiver.proofs.MultiplexedBytes.{received-chain}
use Rattle.seg_receiver.proofs.compose_laws.chain_law.Goals as goal

pub returns : goal.returns
returns c = received-chain
