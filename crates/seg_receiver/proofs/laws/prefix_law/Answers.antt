use Rattle.seg_receiver.proofs.StableFrames.{received_frame-same}
use Rattle.seg_receiver.proofs.laws.prefix_law.Goals as goal

pub returns : goal.returns
returns c = received_frame-same
