use Rattle.std.proofs.Common.{◌≡◌, ℕ, suc, ◌+◌, ◌-◌, ◌≤◌, ap, sym, ◌∙◌, get_or, arith}
use Rattle.std.specs.Prelude.{bit_xor}
use Rattle.gf_rs.specs.Field.{gf_mul}
use Rattle.gf_rs.specs.Polynomials.{along, moved}
use Rattle.gf_rs.proofs.LocatorLaws.{along-short, kept_step, mended_step, longer_step, mended, IsBerlekampMassey-same}
use Rattle.gf_rs.proofs.locator.error_locator.Goals as goal
use Rattle.gf_rs.proofs.locator.error_locator.Goals.{then-miss-ne0+then-degree-n, then-miss-ne0+else-degree-n, else-miss-ne0}

pub loop-n-preserved : goal.loop-n-preserved
loop-n-preserved c =
    let n = c.loop-n.n in
    let l = c.loop-n.degree in
    let a = λ (j : ℕ). get_or c.loop-n.locator j 0 in
    let b = λ (j : ℕ). get_or c.loop-n.previous j 0 in
    let s = λ (m : ℕ). get_or c.args.syndromes.now m 0 in
    let x = c.discrepancy-miss.result in
    let within : l ≤ n = c.loop-n.invariant.within in
    let whole : l + (n - l) ≡ n = omega arith in
    let none : n - l ≡ n - l + 0 = omega arith in
    let miss : along a s n 0 ≡ x = ap (λ k. along a s k 0) (sym whole) ∙ along-short a s l (n - l) 0 c.loop-n.invariant.short ∙ ap (along a s l) (sym none) ∙ sym c.discrepancy-miss.ensures in
    let next : n + 1 ≡ suc n = omega arith in
    let up : (j : ℕ) → get_or c.move_up.new.coefficients j 0 ≡ moved b j = c.move_up.ensures in
    elim c.if-miss-ne0.branch [
      | then-miss-ne0+then-degree-n w ↦
          IsBerlekampMassey-same (n + 1) (suc n) c.if-miss-ne0.degree (n + 1 - l) (λ j. get_or c.if-miss-ne0.locator j 0) (mended a b x) (λ j. get_or c.if-miss-ne0.previous j 0) (λ j. gf_mul w.inverse.result (a j)) s
          next w.degree-is
          (λ j. ap (λ xs. get_or xs j 0) w.locator-is ∙ w.add_and_swap.ensures.coefficients j ∙ ap (λ z. bit_xor (a j) (gf_mul x z)) (up j))
          (λ j. ap (λ xs. get_or xs j 0) w.previous-is ∙ w.add_and_swap.ensures.other j)
          (longer_step n l a b s x w.inverse.result c.loop-n.invariant miss (omega arith) w.inverse.ensures (omega arith))
      | then-miss-ne0+else-degree-n w ↦
          IsBerlekampMassey-same (n + 1) (suc n) c.if-miss-ne0.degree l (λ j. get_or c.if-miss-ne0.locator j 0) (mended a b x) (λ j. get_or c.if-miss-ne0.previous j 0) (moved b) s
          next w.degree-is
          (λ j. ap (λ xs. get_or xs j 0) w.locator-is ∙ w.add_scaled.ensures j ∙ ap (λ z. bit_xor (a j) (gf_mul x z)) (up j))
          (λ j. ap (λ xs. get_or xs j 0) w.previous-is ∙ up j)
          (mended_step n l a b s x c.loop-n.invariant miss (omega arith) (omega arith))
      | else-miss-ne0 w ↦
          IsBerlekampMassey-same (n + 1) (suc n) c.if-miss-ne0.degree l (λ j. get_or c.if-miss-ne0.locator j 0) a (λ j. get_or c.if-miss-ne0.previous j 0) (moved b) s
          next w.degree-is
          (λ j. ap (λ xs. get_or xs j 0) w.locator-is)
          (λ j. ap (λ xs. get_or xs j 0) w.previous-is ∙ up j)
          (kept_step n l a b s c.loop-n.invariant (miss ∙ (omega arith)))
    ]
