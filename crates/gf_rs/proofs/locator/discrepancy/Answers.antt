use Rattle.std.proofs.Common.{◌≡◌, ◌+◌, ◌-◌, ◌<◌, ap, sym, ◌∙◌, get_or, arith}
use Rattle.std.specs.Prelude.{bit_xor}
use Rattle.gf_rs.specs.Field.{gf_mul}
use Rattle.gf_rs.specs.Polynomials.{along}
use Rattle.gf_rs.proofs.Steps.{along-first, along-next}
use Rattle.gf_rs.proofs.locator.discrepancy.Goals as goal

pub loop-j-init : goal.loop-j-init
loop-j-init c =
    let e : c.args.from + c.args.degree ≡ c.args.from + c.args.degree - 0 = omega arith in
    c.product-sum.ensures ∙ ap (λ i. gf_mul (get_or c.args.locator.now 0 0) (get_or c.args.syndromes.now i 0)) e
    ∙ sym (along-first (λ j. get_or c.args.locator.now j 0) (λ m. get_or c.args.syndromes.now m 0) (c.args.from + c.args.degree - 0))

pub loop-j-preserved : goal.loop-j-preserved
loop-j-preserved c =
    let below : c.loop-j.j < c.args.degree = omega arith in
    ap (λ z. bit_xor z c.product-sum-in-loop-j.result) c.loop-j.invariant
    ∙ ap (λ z. bit_xor (along (λ j. get_or c.args.locator.now j 0) (λ m. get_or c.args.syndromes.now m 0) c.loop-j.j (c.args.from + c.args.degree - c.loop-j.j)) z) c.product-sum-in-loop-j.ensures
    ∙ sym (along-next (λ j. get_or c.args.locator.now j 0) (λ m. get_or c.args.syndromes.now m 0) c.loop-j.j c.args.degree c.args.from below)
