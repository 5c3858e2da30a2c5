use Rattle.std.proofs.Common.{◌≡◌, ℕ, ◌+◌, ◌<◌, false, get_or}
use Rattle.viterbi_hard.specs.Steps.{step_at, received_from, sent_before}
use Rattle.viterbi_hard.proofs.received.expand_pattern.Given as goal

abbrev pub invariant-loop-step : goal.invariant-loop-step
invariant-loop-step l = record {
  next : l.next ≡ l.at + sent_before l.rate l.step;
  set : (j : ℕ) → j < l.step → step_at l.steps (l.first + j) ≡ received_from l.rate (λ i. get_or l.bits i false) (l.at + sent_before l.rate j) j;
  others : (i : ℕ) → i < l.first → get_or l.steps i 0 ≡ get_or l.fn.steps i 0;
}
