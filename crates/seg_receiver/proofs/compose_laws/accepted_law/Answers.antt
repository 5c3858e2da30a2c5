use Rattle.seg_receiver.proofs.AcceptedStream.{accepted-broadcast, accepted-written}
use Rattle.seg_receiver.proofs.compose_laws.accepted_law.Goals as goal

pub returns : goal.returns
returns c = record { each = accepted-broadcast; written = accepted-written }
