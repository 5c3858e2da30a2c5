use Rattle.std.proofs.Common.{◌≡◌, ℕ, ◌<◌, ◌≤◌, get_or}
use Rattle.std.specs.Prelude.{bit_xor}
use Rattle.gf_rs.proofs.rs.add_all.Given as goal

abbrev pub invariant-loop-k : goal.invariant-loop-k
invariant-loop-k l = record {
  done : (j : ℕ) → j < l.k → get_or l.bytes j 0 ≡ bit_xor (get_or l.initial.bytes j 0) (get_or l.other j 0);
  left : (j : ℕ) → l.k ≤ j → get_or l.bytes j 0 ≡ get_or l.initial.bytes j 0;
}
