use Rattle.std.proofs.Common.{◌≡◌, ◌+◌, ◌-◌, get_or}
use Rattle.gf_rs.specs.Polynomials.{along}
use Rattle.gf_rs.proofs.locator.discrepancy.Given as goal

abbrev pub invariant-loop-j : goal.invariant-loop-j
invariant-loop-j l = l.sum ≡ along (λ j. get_or l.locator j 0) (λ m. get_or l.syndromes m 0) l.j (l.from + l.degree - l.j)
