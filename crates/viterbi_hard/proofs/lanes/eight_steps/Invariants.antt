use Rattle.std.proofs.Common.{ℕ, ◌+◌, ◌≤◌, List}
use Rattle.viterbi_hard.specs.declared.received.Received.{Received}
use Rattle.viterbi_hard.specs.States.{AreTags, Holds}
use Rattle.viterbi_hard.specs.Steps.{pushed}
use Rattle.viterbi_hard.proofs.lanes.eight_steps.Given as goal

abbrev pub invariant-loop-step : goal.invariant-loop-step
invariant-loop-step l = record {
  metrics : (since : ℕ) (rs : List Received) → Holds l.fn.start since rs → since ≤ 56 → Holds l.metrics (since + l.step) (pushed l.steps l.at l.step rs);
  tags : (since : ℕ) (rs : List Received) → Holds l.fn.start since rs → since ≤ 56 → AreTags l.tags l.step (pushed l.steps l.at l.step rs);
}
