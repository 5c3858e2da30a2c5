use Rattle.std.proofs.Common.{arith}
use Rattle.gf_rs.proofs.TableLaws.{power_255, power_order, unique_logarithm}
use Rattle.gf_rs.proofs.laws.power_law.Goals as goal

pub returns : goal.returns
returns c = record {
  order = power_255;
  least = power_order;
  logarithm = λ p. unique_logarithm c.args.a.0 p (omega arith);
}
