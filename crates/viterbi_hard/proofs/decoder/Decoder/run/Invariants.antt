use Rattle.std.proofs.Common.{◌≡◌, ℕ, ◌+◌, ◌-◌, ◌≤◌, List, Bool, length}
use Rattle.viterbi_hard.specs.declared.decoder.Decoder.{Decoder}
use Rattle.viterbi_hard.specs.StandsFor.{AreSteps, FeedsTo}
use Rattle.viterbi_hard.proofs.decoder.Decoder.run.Given as goal

abbrev pub invariant-loop-at : goal.invariant-loop-at
invariant-loop-at l = record {
  rate : l.self.rate ≡ l.fn.self.rate;
  few : l.end ≤ l.decided + l.at;
  within : l.at ≤ length l.steps;
  feed : (start : Decoder) (bits before : List Bool) (done : ℕ) → AreSteps start bits l.steps done → FeedsTo start l.fn.self bits before l.fn.out l.decided done → FeedsTo start l.self bits before l.out l.end (done + l.at);
}

abbrev pub decreases-loop-at : goal.decreases-loop-at
decreases-loop-at l = length l.steps - l.at
