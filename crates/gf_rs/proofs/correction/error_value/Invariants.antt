use Rattle.std.proofs.Common.{◌≡◌, ◌-◌, get_or}
use Rattle.gf_rs.specs.Polynomials.{along, value_to}
use Rattle.gf_rs.proofs.correction.error_value.Given as goal

abbrev pub invariant-loop-j : goal.invariant-loop-j
invariant-loop-j l = record {
  quotient_is : l.quotient ≡ value_to (λ j. get_or l.locator j 0) l.j l.point;
  bottom_is : l.bottom ≡ value_to (λ k. value_to (λ j. get_or l.locator j 0) k l.point) l.j l.point;
  top_is : l.top ≡ along (λ k. value_to (λ j. get_or l.locator j 0) k l.point) (λ m. get_or l.syndromes m 0) l.j (l.degree - 1 - l.j);
}
