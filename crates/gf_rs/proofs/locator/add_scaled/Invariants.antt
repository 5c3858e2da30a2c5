use Rattle.std.proofs.Common.{◌≡◌, ℕ, ◌<◌, ◌≤◌, get_or}
use Rattle.std.specs.Prelude.{bit_xor}
use Rattle.gf_rs.specs.Field.{gf_mul}
use Rattle.gf_rs.proofs.locator.add_scaled.Given as goal

abbrev pub invariant-loop-j : goal.invariant-loop-j
invariant-loop-j l = record {
  done : (k : ℕ) → k < l.j → get_or l.coefficients k 0 ≡ bit_xor (get_or l.initial.coefficients k 0) (gf_mul l.factor (get_or l.other k 0));
  left : (k : ℕ) → l.j ≤ k → get_or l.coefficients k 0 ≡ get_or l.initial.coefficients k 0;
}
