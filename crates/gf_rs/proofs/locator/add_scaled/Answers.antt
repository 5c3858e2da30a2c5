use Rattle.std.proofs.Common.{arith}
use Rattle.gf_rs.proofs.Steps.{all-scaled}
use Rattle.gf_rs.proofs.locator.add_scaled.Goals as goal

pub returns : goal.returns
returns c = all-scaled c.loop-j.coefficients c.args.coefficients.now c.args.other.now c.args.factor (omega arith) (omega arith) (λ k h. c.loop-j.invariant.done k (omega arith))
