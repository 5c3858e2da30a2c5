use Rattle.std.proofs.Common.{arith}
use Rattle.gf_rs.proofs.TableLaws.{logarithm-le}
use Rattle.gf_rs.proofs.tables.logarithm.Goals as goal

pub returns-clause-most : goal.returns-clause-most
returns-clause-most c = logarithm-le c.args.number (omega arith)
