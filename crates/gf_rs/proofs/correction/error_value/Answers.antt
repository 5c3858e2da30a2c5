use Rattle.std.proofs.Common.{◌≡◌, ℕ, ◌+◌, ◌-◌, ◌<◌, ap, sym, ◌∙◌, get_or, arith}
use Rattle.std.specs.Prelude.{bit_xor}
use Rattle.gf_rs.specs.Field.{gf_mul}
use Rattle.gf_rs.specs.Polynomials.{along, value_to}
use Rattle.gf_rs.proofs.Steps.{along-first, along-down, value_to-first, value_to-next, divided}
use Rattle.gf_rs.proofs.correction.error_value.Goals as goal

pub loop-j-init : goal.loop-j-init
loop-j-init c =
    let a = λ (j : ℕ). get_or c.args.locator.now j 0 in
    let s = λ (m : ℕ). get_or c.args.syndromes.now m 0 in
    let x = c.args.point in
    let q = λ (k : ℕ). value_to a k x in
    let e : c.args.degree - 1 ≡ c.args.degree - 1 - 0 = omega arith in
    record {
      quotient_is = sym (value_to-first a x);
      bottom_is = sym (value_to-first q x ∙ value_to-first a x);
      top_is = c.product-top.ensures ∙ ap (λ i. gf_mul (a 0) (s i)) e ∙ sym (along-first q s (c.args.degree - 1 - 0) ∙ ap (λ z. gf_mul z (s (c.args.degree - 1 - 0))) (value_to-first a x));
    }

pub loop-j-preserved : goal.loop-j-preserved
loop-j-preserved c =
    let a = λ (j : ℕ). get_or c.args.locator.now j 0 in
    let s = λ (m : ℕ). get_or c.args.syndromes.now m 0 in
    let x = c.args.point in
    let j = c.loop-j.j in
    let q = λ (k : ℕ). value_to a k x in
    let below : j < c.args.degree - 1 = omega arith in
    let next : bit_xor c.product.result (a (j + 1)) ≡ q (j + 1) =
    ap (λ z. bit_xor z (a (j + 1))) (c.product.ensures ∙ ap (λ z. gf_mul z x) c.loop-j.invariant.quotient_is) ∙ sym (value_to-next a j x) in
    record {
      quotient_is = next;
      bottom_is = ap (λ z. bit_xor z (bit_xor c.product.result (a (j + 1)))) (c.product-in-loop-j.ensures ∙ ap (λ z. gf_mul z x) c.loop-j.invariant.bottom_is)
          ∙ ap (bit_xor (gf_mul (value_to q j x) x)) next ∙ sym (value_to-next q j x);
      top_is = ap (λ z. bit_xor z c.product-top-in-loop-j.result) c.loop-j.invariant.top_is
          ∙ ap (bit_xor (along q s j (c.args.degree - 1 - j))) (c.product-top-in-loop-j.ensures ∙ ap (λ z. gf_mul z (s (c.args.degree - 2 - j))) next)
          ∙ sym (along-down q s j c.args.degree below);
    }

pub returns-else-bottom-eq0 : goal.returns-else-bottom-eq0
returns-else-bottom-eq0 c ne =
    let a = λ (j : ℕ). get_or c.args.locator.now j 0 in
    let s = λ (m : ℕ). get_or c.args.syndromes.now m 0 in
    let x = c.args.point in
    let q = λ (k : ℕ). value_to a k x in
    let whole : c.loop-j.j ≡ c.args.degree - 1 = omega arith in
    let none : c.args.degree - 1 - c.loop-j.j ≡ 0 = omega arith in
    let bottom : c.loop-j.bottom ≡ value_to q (c.args.degree - 1) x = c.loop-j.invariant.bottom_is ∙ ap (λ k. value_to q k x) whole in
    let top : c.loop-j.top ≡ along q s (c.args.degree - 1) 0 = c.loop-j.invariant.top_is ∙ ap (along q s c.loop-j.j) none ∙ ap (λ k. along q s k 0) whole in
    let small : c.loop-j.top < 256 = omega arith in
    ap (λ z. gf_mul z c.product-else-bottom-eq0.result) (sym bottom)
    ∙ divided c.loop-j.bottom c.loop-j.top c.inverse.result c.product-else-bottom-eq0.result c.inverse.ensures c.product-else-bottom-eq0.ensures small ∙ top
