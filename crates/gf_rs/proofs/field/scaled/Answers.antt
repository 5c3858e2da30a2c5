use Rattle.std.proofs.Common.{arith}
use Rattle.gf_rs.proofs.TableLaws.{scaled_is}
use Rattle.gf_rs.proofs.field.scaled.Goals as goal

pub returns : goal.returns
returns c = rw (c.power.ensures, c.logarithm.ensures.entry) (scaled_is c.args.number c.args.exponent (omega arith) c.requires)
