use Rattle.std.proofs.Common.{◌≡◌, ℕ, ◌<◌, ◌≤◌, get_or}
use Rattle.gf_rs.specs.Polynomials.{moved}
use Rattle.gf_rs.proofs.locator.move_up.Given as goal

abbrev pub invariant-loop-c : goal.invariant-loop-c
invariant-loop-c l = record {
  carried_is : l.carried ≡ moved (λ k. get_or l.initial.coefficients k 0) l.c-index;
  done : (k : ℕ) → k < l.c-index → get_or l.coefficients k 0 ≡ moved (λ j. get_or l.initial.coefficients j 0) k;
  left : (k : ℕ) → l.c-index ≤ k → get_or l.coefficients k 0 ≡ get_or l.initial.coefficients k 0;
}
