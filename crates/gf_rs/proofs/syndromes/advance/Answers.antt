use Rattle.std.proofs.Common.{◌≡◌, ◌≢◌, ◌<◌, ap, ◌∙◌, get_or, length, arith, below_more, get_or-set_other, get_or-set_same}
use Rattle.std.specs.Prelude.{bit_xor}
use Rattle.gf_rs.specs.Field.{gf_mul, gf_pow}
use Rattle.gf_rs.proofs.syndromes.advance.Goals as goal

pub loop-i-preserved : goal.loop-i-preserved
loop-i-preserved c =
    let i = c.loop-i.i in
    let here : get_or c.loop-i.values i 0 ≡ get_or c.args.values.now i 0 = c.loop-i.invariant.left i (omega arith) in
    record {
      done = below_more _ _
          (λ k h. let ne : k ≢ i = omega arith in rw get_or-set_other (c.loop-i.invariant.done k h))
          (let lt : i < length c.loop-i.values = omega arith in rw get_or-set_same (ap (λ z. bit_xor z c.args.byte) (c.scaled.ensures ∙ ap (λ z. gf_mul z (gf_pow 2 i)) here)));
      left = λ k h. let ne : k ≢ i = omega arith in rw get_or-set_other (c.loop-i.invariant.left k (omega arith));
    }
