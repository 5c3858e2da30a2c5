use Rattle.std.proofs.Common.{arith}
use Rattle.gf_rs.proofs.OneCodeword.{added-is}
use Rattle.gf_rs.proofs.rs.add_all.Goals as goal

pub returns : goal.returns
returns c = added-is c.loop-k.bytes c.args.bytes.now c.args.other.now (omega arith) (omega arith) (λ j h. c.loop-k.invariant.done j (omega arith))
