use Rattle.std.proofs.Common.{◌≡◌, ℕ, ◌+◌, ◌*◌, Bool}
use Rattle.isdbt_base.specs.Numbers.{rate_steps, rate_bits}
use Rattle.conv_punct.specs.MotherCode.{AreMotherBits, AreCoded, ChangesOnly}
use Rattle.conv_punct.proofs.puncture.put_patterns.Given as goal

abbrev pub invariant-loop-done : goal.invariant-loop-done
invariant-loop-done l = record {
  place : l.end ≡ l.fn.at + rate_bits l.fn.rate * l.done;
  coded : (u : ℕ → Bool) (i before : ℕ) → AreMotherBits l.outputs (rate_steps l.fn.rate * l.fn.patterns) u i → i ≡ rate_steps l.fn.rate * (before + l.fn.patterns) → AreCoded l.fn.rate u (rate_bits l.fn.rate * before) l.out l.fn.at (rate_bits l.fn.rate * l.done);
  others : ChangesOnly l.initial.out l.out l.fn.at (rate_bits l.fn.rate * l.done);
}
