use Rattle.std.proofs.Common.{arith}
use Rattle.gf_rs.proofs.TableLaws.{logarithm-lt, inverse_is}
use Rattle.gf_rs.proofs.field.inverse.Goals as goal

pub overflow_sub-logarithm : goal.overflow_sub-logarithm
overflow_sub-logarithm c = omega (arith, logarithm-lt c.args.a c.requires (omega arith), c.logarithm.ensures.entry)

pub power-requires : goal.power-requires
power-requires c = omega (arith, logarithm-lt c.args.a c.requires (omega arith), c.logarithm.ensures.entry)

pub returns : goal.returns
returns c = rw (c.power.ensures, c.logarithm.ensures.entry) (inverse_is c.args.a c.requires (omega arith))
