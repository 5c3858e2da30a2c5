use Rattle.seg_receiver.proofs.NearDelivered.{received-near, received_frame-near}
use Rattle.seg_receiver.proofs.laws.received_law.Goals as goal

pub returns : goal.returns
returns c = record { whole = received-near; each = received_frame-near }
