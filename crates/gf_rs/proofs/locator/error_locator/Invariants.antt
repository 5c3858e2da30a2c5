use Rattle.std.proofs.Common.{get_or}
use Rattle.gf_rs.specs.Polynomials.{IsBerlekampMassey}
use Rattle.gf_rs.proofs.locator.error_locator.Given as goal

abbrev pub invariant-loop-n : goal.invariant-loop-n
invariant-loop-n l = IsBerlekampMassey l.n l.degree (λ j. get_or l.locator j 0) (λ j. get_or l.previous j 0) (λ m. get_or l.syndromes m 0)
