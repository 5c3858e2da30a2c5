use Rattle.std.proofs.Common.{◌≡◌, ◌≤◌, ℕ, ◌+◌, ◌*◌, ◌-◌, ◌<◌, get_or, length}
use Rattle.sample.specs.Generator.{state_after, generated}
use Rattle.sample.proofs.generator.Generator.packet.Given as goal

abbrev pub invariant-loop-k : goal.invariant-loop-k
invariant-loop-k l = record {
  size : length l.packet ≡ 188;
  state : (seed p : ℕ) → l.initial.self.state ≡ state_after seed (187 * p) → l.self.state ≡ state_after seed (187 * p + (l.k - 1));
  first : get_or l.packet 0 0 ≡ 0x47;
  bytes : (seed p : ℕ) → l.initial.self.state ≡ state_after seed (187 * p) → (j : ℕ) → 1 ≤ j → j < l.k → get_or l.packet j 0 ≡ generated seed (187 * p + (j - 1));
}
