use Rattle.std.proofs.Common.{true, false}
use Rattle.seg_receiver.proofs.NearOutcome.{near_outcome}
use Rattle.seg_receiver.proofs.outcome_laws.near_outcome_law.Goals as goal

pub returns : goal.returns
returns c = record {
  whole = λ v p frames count limit plan row heads near few. near_outcome v p false count limit plan row heads near.whole near.words (λ f h e. cc) few;
  partial = λ v p frames count limit plan row heads near few. near_outcome v p true count limit plan row heads near.whole near.words (λ f h e. near.partial f h) few;
}
