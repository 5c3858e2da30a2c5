use Rattle.std.proofs.Common.{◌≡◌, ℕ, ◌+◌, ◌*◌, ◌<◌, false, get_or}
use Rattle.isdbt_base.specs.Numbers.{rate_steps, rate_bits}
use Rattle.viterbi_hard.specs.Steps.{step_at, received_from, sent_before}
use Rattle.viterbi_hard.proofs.received.expand_at.Given as goal

abbrev pub invariant-loop-pattern : goal.invariant-loop-pattern
invariant-loop-pattern l = record {
  set : (q j : ℕ) → q < l.pattern → j < rate_steps l.rate → step_at l.steps (rate_steps l.rate * q + j) ≡ received_from l.rate (λ i. get_or l.bits i false) (l.at + rate_bits l.rate * q + sent_before l.rate j) j;
}
