use Rattle.seg_receiver.proofs.CleanDelivered.{plan_cells-near}
use Rattle.seg_receiver.proofs.laws.near_law.Goals as goal

pub returns : goal.returns
returns c = plan_cells-near
