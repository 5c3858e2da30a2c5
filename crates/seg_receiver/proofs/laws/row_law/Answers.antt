use Rattle.seg_receiver.proofs.PlanViews.{in_row}
use Rattle.seg_receiver.proofs.laws.row_law.Goals as goal

pub returns : goal.returns
returns c = λ how. in_row how.fix how.form
