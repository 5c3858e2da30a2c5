use Rattle.std.proofs.Common.{arith}
use Rattle.gf_rs.proofs.TableLaws.{product_is}
use Rattle.gf_rs.proofs.field.product.Goals as goal

pub overflow_add-logarithm : goal.overflow_add-logarithm
overflow_add-logarithm c = omega arith

pub power-requires : goal.power-requires
power-requires c = omega arith

pub returns : goal.returns
returns c = rw (c.power.ensures, c.logarithm.ensures.entry, c.logarithm-2.ensures.entry) (product_is c.args.a c.args.b (omega arith) (omega arith))
