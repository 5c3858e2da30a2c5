use Rattle.std.proofs.Common.{◌≡◌, get_or}
use Rattle.gf_rs.specs.Polynomials.{value_to}
use Rattle.gf_rs.proofs.correction.value.Given as goal

abbrev pub invariant-loop-j : goal.invariant-loop-j
invariant-loop-j l = l.value ≡ value_to (λ j. get_or l.coefficients j 0) l.j l.point
