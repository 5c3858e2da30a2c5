use Rattle.seg_receiver.proofs.InputDelivered.{input_delivered}
use Rattle.seg_receiver.proofs.compose_laws.input_law.Goals as goal

pub returns : goal.returns
returns c = input_delivered
