use Rattle.std.proofs.Common.{◌≡◌, ◌≢◌, ℕ, ◌+◌, ◌-◌, ◌<◌, ◌≤◌, ap, sym, ◌∙◌, subst, length, get_or, arith, inl, inr, below_more, get_or-set_other, get_or-set_same}
use Rattle.std.specs.Prelude.{bit_xor}
use Rattle.std.proofs.lemmas.List.{ext_get_or}
use Rattle.std.proofs.lemmas.List.Elements.{All-from_get_or}
use Rattle.gf_rs.specs.Field.{gf_pow}
use Rattle.gf_rs.specs.Polynomials.{value_to, IsErrorValue}
use Rattle.gf_rs.proofs.TableLaws.{power_is}
use Rattle.gf_rs.proofs.CorrectionLaws.{root_positive, place_right, not_long-near}
use Rattle.gf_rs.proofs.correction.correct.Goals as goal
use Rattle.gf_rs.proofs.correction.correct.Goals.{then-value-eq0, else-value-eq0}

pub error_value-requires-clause-degree : goal.error_value-requires-clause-degree
error_value-requires-clause-degree c =
    root_positive c.error_locator-degree.result (λ j. get_or c.error_locator-degree.new.locator j 0) c.power-point.result c.error_locator-degree.ensures.first (sym c.value.ensures ∙ c.if-value-eq0.true)

pub loop-place-preserved : goal.loop-place-preserved
loop-place-preserved c =
    let word = c.args.word.now in
    let terms = c.args.syndromes.now in
    let place = c.loop-place.place in
    let l = c.error_locator-degree.result in
    let a = λ (j : ℕ). get_or c.error_locator-degree.new.locator j 0 in
    let b = λ (j : ℕ). get_or c.error_locator-degree.new.previous j 0 in
    let s = λ (m : ℕ). get_or terms m 0 in
    let q = length word - 1 - place in
    let inside : place < length word = omega arith in
    let point : c.power-point.result ≡ gf_pow 2 q = c.power-point.ensures ∙ power_is q (omega arith) in
    let value : c.value.result ≡ value_to a l (gf_pow 2 q) = c.value.ensures ∙ ap (value_to a l) point in
    let here : get_or c.loop-place.word place 0 ≡ get_or word place 0 = c.loop-place.invariant.left place (omega arith) in
    elim c.if-value-eq0.branch [
      | then-value-eq0 w ↦
          (let e = w.error_value.result in
          let root : value_to a l (gf_pow 2 q) ≡ 0 = sym value ∙ w.if-value-eq0.true in
          let divides : IsErrorValue a s (l - 1) (gf_pow 2 q) e = subst (λ x. IsErrorValue a s (l - 1) x e) point w.error_value.ensures in
          record {
            bytes = c.loop-place.invariant.bytes;
            coefficient_bytes = c.loop-place.invariant.coefficient_bytes;
            done = λ near isnear. below_more _ _
                (λ k h. let ne : k ≢ place = omega arith in rw (w.word-is, get_or-set_other) (c.loop-place.invariant.done near isnear k h))
                (let lt : place < length c.loop-place.word = omega arith in
                rw (w.word-is, get_or-set_same)
                (ap (λ z. bit_xor z e) here
                ∙ (elim (place_right (length terms) l a b terms word near place e c.error_locator-degree.ensures c.loop-place.invariant.coefficient_bytes c.requires.syndromes isnear c.loop-place.invariant.bytes c.requires.size inside (omega arith) (λ z. divides)) [
                  | inl r ↦ r.1
                  | inr r ↦ absurd (r.0 root)
                ])));
            left = λ k h. let ne : k ≢ place = omega arith in rw (w.word-is, get_or-set_other) (c.loop-place.invariant.left k (omega arith));
          })
      | else-value-eq0 w ↦
          record {
            bytes = c.loop-place.invariant.bytes;
            coefficient_bytes = c.loop-place.invariant.coefficient_bytes;
            done = λ near isnear. below_more _ _
                (λ k h. rw w.word-is (c.loop-place.invariant.done near isnear k h))
                (rw w.word-is
                (here
                ∙ (elim (place_right (length terms) l a b terms word near place 0 c.error_locator-degree.ensures c.loop-place.invariant.coefficient_bytes c.requires.syndromes isnear c.loop-place.invariant.bytes c.requires.size inside (omega arith) (λ z. absurd (w.if-value-eq0.false (value ∙ z)))) [
                  | inl r ↦ absurd (w.if-value-eq0.false (value ∙ r.0))
                  | inr r ↦ r.1
                ])));
            left = λ k h. rw w.word-is (c.loop-place.invariant.left k (omega arith));
          }
    ]

pub returns-after-loop-place : goal.returns-after-loop-place
returns-after-loop-place c near isnear =
    let size : length near ≡ length c.args.word.now = isnear.size in
    ext_get_or 0 c.loop-place.word near (omega arith) (λ k h. c.loop-place.invariant.done near isnear k (omega arith))

pub returns-else-degree-syndromes : goal.returns-else-degree-syndromes
returns-else-degree-syndromes c near isnear =
    let short : c.error_locator-degree.result + c.error_locator-degree.result ≤ length c.args.syndromes.now =
    not_long-near (length c.args.syndromes.now) c.error_locator-degree.result (λ j. get_or c.error_locator-degree.new.locator j 0) (λ j. get_or c.error_locator-degree.new.previous j 0) c.args.syndromes.now c.args.word.now near
    c.error_locator-degree.ensures c.requires.syndromes isnear (All-from_get_or (λ b. b < 256) c.args.word.now 0 (λ k h. omega (arith, c.type_inv.word k))) c.requires.size in
    absurd (omega arith)
