use Rattle.std.proofs.Common.{◌/◌, ◌%◌, ◌^◌, ◌<◌, get_or, take, ap, sym, ◌∙◌, refl, arith}
use Rattle.std.specs.Prelude.{bit_xor}
use Rattle.gf_rs.specs.Field.{gf_mul, gf_pow}
use Rattle.gf_rs.specs.Codewords.{value_at}
use Rattle.gf_rs.proofs.FieldLaws.{zero_mul, xor_lt_byte}
use Rattle.gf_rs.proofs.Steps.{value-none, value-take}
use Rattle.gf_rs.proofs.ProductLaws.{register-zero, register-more}
use Rattle.gf_rs.proofs.products.register_after.Goals as goal

pub loop-byte-init : goal.loop-byte-init
loop-byte-init c = λ i h.
    register-zero (gf_pow 2 i) ∙ sym (ap (λ z. gf_mul z (gf_pow (gf_pow 2 i) 16)) (value-none (gf_pow 2 i)) ∙ zero_mul (gf_pow (gf_pow 2 i) 16))

pub loop-byte-preserved : goal.loop-byte-preserved
loop-byte-preserved c = λ i h.
    let m = c.args.message.now in
    let old = c.loop-byte.register in
    let b = get_or m c.loop-byte.byte-index 0 in
    let v = gf_pow 2 i in
    let small : b < 256 = omega (arith, c.type_inv.message c.loop-byte.byte-index) in
    let factor : bit_xor b (old % 2 ^ 8) < 256 = xor_lt_byte b (old % 2 ^ 8) small (omega arith) in
    let few : old < 2 ^ 128 = omega arith in
    register-more old (bit_xor (old / 2 ^ 8) c.products.result) b (value_at (take c.loop-byte.byte-index m) v) v i few small h refl (ap (bit_xor (old / 2 ^ 8)) c.products.ensures) factor (c.loop-byte.invariant i h)
    ∙ ap (λ z. gf_mul z (gf_pow v 16)) (sym (value-take m c.loop-byte.byte-index v (omega arith)))
