use Rattle.seg_receiver.proofs.FoundFrames.{received-broadcast}
use Rattle.seg_receiver.proofs.compose_laws.headline_law.Goals as goal

pub returns : goal.returns
returns c = received-broadcast
