use Rattle.seg_receiver.proofs.MultiplexedBytes.{multiplexed-packet, multiplexed-packets}
use Rattle.seg_receiver.proofs.compose_laws.multiplexed_law.Goals as goal

pub returns : goal.returns
returns c = record { each = multiplexed-packet; packets = multiplexed-packets }
