use Rattle.std.proofs.Common.{refl}
use Rattle.seg_receiver.proofs.NearHeads.{near-heads}
use Rattle.seg_receiver.proofs.outcome_laws.head_law.Goals as goal

pub returns : goal.returns
returns c = record { near = λ how. near-heads how.fix how.form; plain = λ fix mode guard stream count f h. refl }
