use Rattle.seg_receiver.proofs.RestoredWords.{restored-words}
use Rattle.seg_receiver.proofs.outcome_laws.restored_law.Goals as goal

pub returns : goal.returns
returns c = restored-words
