use Rattle.std.proofs.Common.{◌+◌, ap, sym, ◌∙◌, get_or}
use Rattle.std.specs.Prelude.{bit_xor}
use Rattle.gf_rs.specs.Field.{gf_mul}
use Rattle.gf_rs.proofs.Steps.{value_to-first, value_to-next}
use Rattle.gf_rs.proofs.correction.value.Goals as goal

pub loop-j-init : goal.loop-j-init
loop-j-init c = sym (value_to-first (λ j. get_or c.args.coefficients.now j 0) c.args.point)

pub loop-j-preserved : goal.loop-j-preserved
loop-j-preserved c =
    ap (λ z. bit_xor z (get_or c.args.coefficients.now (c.loop-j.j + 1) 0)) (c.product.ensures ∙ ap (λ z. gf_mul z c.args.point) c.loop-j.invariant)
    ∙ sym (value_to-next (λ j. get_or c.args.coefficients.now j 0) c.loop-j.j c.args.point)
