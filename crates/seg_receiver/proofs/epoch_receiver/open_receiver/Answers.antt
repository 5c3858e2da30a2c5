use Rattle.seg_receiver.specs.CellStream.{segment_cells}
use Rattle.seg_receiver.proofs.epoch_receiver.open_receiver.Goals as goal

pub returns-clause-state : goal.returns-clause-state
returns-clause-state c = λ cell start. (c.in_ok-receiver-2.ensures {u = tt}).state (segment_cells cell) start
