use Rattle.seg_receiver.proofs.CodedInput.{coded-near, coded-none}
use Rattle.seg_receiver.proofs.compose_laws.code_near_law.Goals as goal

pub returns : goal.returns
returns c = record { near = coded-near; none = coded-none }
