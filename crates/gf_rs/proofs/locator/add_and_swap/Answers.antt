use Rattle.std.proofs.Common.{arith}
use Rattle.gf_rs.proofs.Steps.{all-scaled, all-product}
use Rattle.gf_rs.proofs.locator.add_and_swap.Goals as goal

pub returns-clause-coefficients : goal.returns-clause-coefficients
returns-clause-coefficients c = all-scaled c.loop-j.coefficients c.args.coefficients.now c.args.other.now c.args.factor (omega arith) (omega arith) (λ k h. c.loop-j.invariant.done k (omega arith))

pub returns-clause-other : goal.returns-clause-other
returns-clause-other c = all-product c.loop-j.other c.args.coefficients.now c.args.scale (omega arith) (λ k h. c.loop-j.invariant.swapped k (omega arith))
