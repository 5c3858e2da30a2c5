use Rattle.std.proofs.Common.{◌≡◌, ℕ, ◌+◌, ◌*◌, ◌<◌, false, get_or}
use Rattle.energy_prbs.specs.Sequence.{byte_of_bits}
use Rattle.layer_chain.proofs.decided_bytes.pack.Given as goal

abbrev pub invariant-loop-k : goal.invariant-loop-k
invariant-loop-k l = record {
  packed : (n : ℕ) → n < l.k → get_or l.bytes n 0 ≡ byte_of_bits (λ i. get_or l.bits (8 * n + i) false);
}
