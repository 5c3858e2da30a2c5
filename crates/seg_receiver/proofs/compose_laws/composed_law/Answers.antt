use Rattle.seg_receiver.proofs.FoundFrames.{coded_frame-broadcast, coded-broadcast}
use Rattle.seg_receiver.proofs.compose_laws.composed_law.Goals as goal

pub returns : goal.returns
returns c = record { frame = coded_frame-broadcast; stream = coded-broadcast }
