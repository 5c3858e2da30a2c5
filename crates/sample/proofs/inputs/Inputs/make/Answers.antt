use Rattle.std.proofs.Common.{vec_items}
use Rattle.sample.proofs.InputLaws.{input-a, input-b}
use Rattle.sample.proofs.inputs.Inputs.make.Goals as goal

pub invariant_of-result : goal.invariant_of-result
invariant_of-result c = record {
  a_made = input-a c.args.number c.from.result (vec_items c.in_ok-a.a) c.in_ok-a.ensures c.from.ensures;
  b_made = input-b c.args.number c.from-2.result (vec_items c.in_ok-b.b) c.in_ok-b.ensures c.from-2.ensures;
}
