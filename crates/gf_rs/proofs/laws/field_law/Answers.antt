use Rattle.std.proofs.Common.{arith}
use Rattle.std.specs.Int.Bits.{xor_assoc, xor_self, xor_zero_r}
use Rattle.std.proofs.lemmas.Nat.{xor_comm}
use Rattle.gf_rs.proofs.FieldLaws.{mul_assoc, mul_comm, mul_one, mul-xor_right}
use Rattle.gf_rs.proofs.TableLaws.{mul-eq-zero, unique_inverse}
use Rattle.gf_rs.proofs.laws.field_law.Goals as goal

pub returns : goal.returns
returns c = record {
  add_associative = xor_assoc c.args.a.0 c.args.b.0 c.args.c.0;
  add_commutative = xor_comm c.args.a.0 c.args.b.0;
  add_zero = xor_zero_r c.args.a.0;
  add_self = xor_self c.args.a.0;
  mul_associative = mul_assoc c.args.a.0 c.args.b.0 c.args.c.0;
  mul_commutative = mul_comm c.args.a.0 c.args.b.0;
  mul_one = mul_one c.args.a.0 (omega arith);
  distributive = mul-xor_right c.args.a.0 c.args.b.0 c.args.c.0;
  inverse = λ p. unique_inverse c.args.a.0 p (omega arith);
  no_zero_divisors = λ e p. mul-eq-zero c.args.a.0 c.args.b.0 p (omega arith) (omega arith) e;
}
