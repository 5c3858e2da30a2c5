use Rattle.std.proofs.Common.{◌≡◌, ℕ, ◌<◌, ◌≤◌, get_or}
use Rattle.std.specs.Prelude.{bit_xor}
use Rattle.gf_rs.specs.Field.{gf_mul, gf_pow}
use Rattle.gf_rs.proofs.syndromes.advance.Given as goal

abbrev pub invariant-loop-i : goal.invariant-loop-i
invariant-loop-i l = record {
  done : (k : ℕ) → k < l.i → get_or l.values k 0 ≡ bit_xor (gf_mul (get_or l.initial.values k 0) (gf_pow 2 k)) l.byte;
  left : (k : ℕ) → l.i ≤ k → get_or l.values k 0 ≡ get_or l.initial.values k 0;
}
