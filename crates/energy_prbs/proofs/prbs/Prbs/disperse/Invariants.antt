use Rattle.std.proofs.Common.{◌≡◌, ℕ, ◌+◌, ◌<◌, ◌≤◌, slice_index, bit_xor}
use Rattle.energy_prbs.specs.Sequence.{sequence_byte}
use Rattle.energy_prbs.specs.StandsFor.{StandsFor}
use Rattle.energy_prbs.proofs.prbs.Prbs.disperse.Given as goal

abbrev pub invariant-loop-i : goal.invariant-loop-i
invariant-loop-i l = record {
  state : (n : ℕ) → StandsFor l.initial.self n → StandsFor l.self (n + l.i);
  dispersed : (n : ℕ) → StandsFor l.initial.self n → (k : ℕ) → k < l.i → slice_index l.unit k ≡ bit_xor (slice_index l.initial.unit k) (sequence_byte (n + k));
  others : (k : ℕ) → l.i ≤ k → slice_index l.unit k ≡ slice_index l.initial.unit k;
}
