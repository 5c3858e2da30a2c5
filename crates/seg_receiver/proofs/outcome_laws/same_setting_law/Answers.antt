use Rattle.seg_receiver.proofs.NearOutcome.{same_setting-self}
use Rattle.seg_receiver.proofs.SameSettings.{same-equal}
use Rattle.seg_receiver.proofs.outcome_laws.same_setting_law.Goals as goal

pub returns : goal.returns
returns c = record { equal = same-equal; itself = same_setting-self }
