use Rattle.seg_receiver.proofs.CleanDelivered.{plan_cells-near_partial}
use Rattle.seg_receiver.proofs.PartialDelivered.{received_partial-near, partial_frame-near}
use Rattle.seg_receiver.proofs.laws.partial_law.Goals as goal

pub returns : goal.returns
returns c = record { near = received_partial-near; each = partial_frame-near; clean = plan_cells-near_partial }
