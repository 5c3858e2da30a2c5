use Rattle.std.proofs.Common.{◌≡◌, ◌-◌, ◌<◌, ap, sym, ◌∙◌, length, get_or, take, arith}
use Rattle.std.specs.Prelude.{bit_xor}
use Rattle.std.proofs.lemmas.List.Elements.{All-from_get_or}
use Rattle.std.proofs.Math.Seq.{take-length}
use Rattle.gf_rs.specs.Field.{gf_mul, gf_pow}
use Rattle.gf_rs.specs.Codewords.{value_at}
use Rattle.gf_rs.specs.Polynomials.{value_to}
use Rattle.gf_rs.proofs.FieldLaws.{zero_mul}
use Rattle.gf_rs.proofs.Steps.{value_to-zeros, value-none, register-next, value-take, All-from_zeros}
use Rattle.gf_rs.proofs.rs.Rs.shift_all.Goals as goal

pub loop-byte-init : goal.loop-byte-init
loop-byte-init g c = record {
  bytes = All-from_zeros c.clear.new.values c.clear.ensures;
  values = λ i h. value_to-zeros (λ j. get_or c.clear.new.values j 0) (length c.clear.new.values - 1) (gf_pow 2 i) c.clear.ensures
      ∙ sym (ap (λ z. gf_mul z (gf_pow (gf_pow 2 i) (length c.clear.new.values))) (value-none (gf_pow 2 i)) ∙ zero_mul (gf_pow (gf_pow 2 i) (length c.clear.new.values)));
}

pub loop-byte-preserved : goal.loop-byte-preserved
loop-byte-preserved g c =
    let r = g.row.ROOTS in
    let now : length c.loop-byte.out ≡ r = omega arith in
    let new : length c.shift_in.new.register ≡ r = omega arith in
    let m = c.args.message.now in
    let row = c.generator-generator.result.now in
    record {
      bytes = All-from_get_or (λ b. b < 256) c.shift_in.new.register 0 (λ k h. omega (arith, c.type_inv.out k));
      values = λ i h.
          (let v = gf_pow 2 i in
          ap (λ n. value_to (λ j. get_or c.shift_in.new.register j 0) (n - 1) v) new
          ∙ register-next c.loop-byte.out c.shift_in.new.register row r (get_or m c.loop-byte.byte-index 0) (value_at (take c.loop-byte.byte-index m) v) v (omega arith) now (λ k h. c.shift_in.ensures k (omega arith))
          (c.generator-generator.ensures.roots i (omega arith))
          (ap (λ n. value_to (λ j. get_or c.loop-byte.out j 0) (n - 1) v) (sym now) ∙ c.loop-byte.invariant.values i (omega arith) ∙ ap (λ n. gf_mul (value_at (take c.loop-byte.byte-index m) v) (gf_pow v n)) now)
          ∙ ap (λ n. gf_mul (bit_xor (gf_mul (value_at (take c.loop-byte.byte-index m) v) v) (get_or m c.loop-byte.byte-index 0)) (gf_pow v n)) (sym new)
          ∙ ap (λ z. gf_mul z (gf_pow v (length c.shift_in.new.register))) (sym (value-take m c.loop-byte.byte-index v (omega arith))));
    }

pub returns : goal.returns
returns g c = λ i h.
    let r = g.row.ROOTS in
    let m = c.args.message.now in
    let now : length c.loop-byte.out ≡ r = omega arith in
    let end : c.loop-byte.byte-index ≡ length m = omega arith in
    let whole : take c.loop-byte.byte-index m ≡ m = ap (λ k. take k m) end ∙ take-length m in
    ap (λ n. value_to (λ j. get_or c.loop-byte.out j 0) (n - 1) (gf_pow 2 i)) (sym now) ∙ c.loop-byte.invariant.values i (omega arith)
    ∙ ap (λ n. gf_mul (value_at (take c.loop-byte.byte-index m) (gf_pow 2 i)) (gf_pow (gf_pow 2 i) n)) now
    ∙ ap (λ l. gf_mul (value_at l (gf_pow 2 i)) (gf_pow (gf_pow 2 i) r)) whole
