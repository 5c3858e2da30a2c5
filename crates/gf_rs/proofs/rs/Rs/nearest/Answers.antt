use Rattle.std.proofs.Common.{◌≡◌, ℕ, ◌+◌, ◌/◌, ◌<◌, ◌≤◌, false, ap, sym, ◌∙◌, subst, refl, List, length, arith, length-take}
use Rattle.std.specs.Prelude.{All, IsTrue}
use Rattle.gf_rs.specs.Field.{gf_pow}
use Rattle.gf_rs.specs.Codewords.{value_at, differing, IsNear}
use Rattle.gf_rs.proofs.OneNear.{one_near}
use Rattle.gf_rs.proofs.Steps.{differing-self}
use Rattle.gf_rs.proofs.rs.Rs.nearest.Given.{Over}
use Rattle.gf_rs.proofs.rs.Rs.nearest.Goals as goal
use Rattle.gf_rs.proofs.rs.Rs.nearest.Goals.{else-are_zero-2-via-then-are_zero-2+else-changed, else-are_zero-2-via-else-are_zero-2}

clean : (g : Over) (c : goal.After-rest-then-are_zero-1 g) → IsNear g.row.ROOTS c.args.word.now c.args.word.now
clean g c =
    let none : differing c.args.word.now c.args.word.now ≡ 0 = differing-self c.args.word.now in
    record { codeword = c.remainder.ensures.zero.0 (c.if-are_zero.ensures.0 refl); size = refl; close = omega arith }

pub returns-then-are_zero-clause-answer : goal.returns-then-are_zero-clause-answer
returns-then-are_zero-clause-answer g c = (clean g c, sym (differing-self c.args.word.now))

pub returns-then-are_zero-clause-only : goal.returns-then-are_zero-clause-only
returns-then-are_zero-clause-only g c near isnear = one_near g.row.ROOTS c.args.word.now c.args.word.now near (omega arith) (clean g c) isnear

pub correct-requires-clause-syndromes : goal.correct-requires-clause-syndromes
correct-requires-clause-syndromes g c i h =
    let size : length c.fill_syndromes.new.syndromes ≡ g.row.ROOTS = c.fill_syndromes.auto.syndromes ∙ simp length-take (omega arith) in
    c.fill_syndromes.ensures i (omega arith) ∙ c.remainder.ensures.values i (omega arith) ∙ ap (λ w. value_at w (gf_pow 2 i)) (sym c.copy_from_slice.ensures.after)

changed : (g : Over) (c : goal.After-slice_known-then-changed-1 g) → IsNear g.row.ROOTS c.args.word.now c.correct.new.word
changed g c =
    let copied : c.copy_from_slice.new.self ≡ c.args.word.now = c.copy_from_slice.ensures.after in
    let same : length c.correct.new.word ≡ length c.args.word.now = c.correct.auto.word ∙ ap length copied in
    let count : c.count_differing-changed.result ≡ differing c.args.word.now c.correct.new.word = c.count_differing-changed.ensures in
    record { codeword = c.remainder-2.ensures.zero.0 (c.if-are_zero-2.ensures.0 refl); size = same; close = omega arith }

pub returns-then-changed-clause-answer : goal.returns-then-changed-clause-answer
returns-then-changed-clause-answer g c =
    let written : c.copy_from_slice-then-changed.new.self ≡ c.correct.new.word = c.copy_from_slice-then-changed.ensures.after in
    rw written (changed g c, c.count_differing-changed.ensures)

-- a codeword that is near would have been found
found : (g : Over) (c : goal.Joined-else-are_zero-2 g) (near : List ℕ) → IsNear g.row.ROOTS c.args.word.now near → ⊥
found g c near isnear =
    let size : length c.fill_syndromes.new.syndromes ≡ g.row.ROOTS = c.fill_syndromes.auto.syndromes ∙ simp length-take (omega arith) in
    let copied : c.copy_from_slice.new.self ≡ c.args.word.now = c.copy_from_slice.ensures.after in
    let here : IsNear (length c.fill_syndromes.new.syndromes) c.copy_from_slice.new.self near = subst (λ r. IsNear r c.copy_from_slice.new.self near) (sym size) (subst (λ w. IsNear g.row.ROOTS w near) (sym copied) isnear) in
    let is : c.correct.new.word ≡ near = c.correct.ensures near here in
    let good : IsNear g.row.ROOTS c.args.word.now c.correct.new.word = subst (λ w. IsNear g.row.ROOTS c.args.word.now w) (sym is) isnear in
    let zeros : All (λ v. v ≡ 0) c.remainder-2.new.rest = c.remainder-2.ensures.zero.1 good.codeword in
    let count : c.count_differing-changed.result ≡ differing c.args.word.now c.correct.new.word = c.count_differing-changed.ensures in
    let close : differing c.args.word.now c.correct.new.word + differing c.args.word.now c.correct.new.word ≤ g.row.ROOTS = good.close in
    elim c.else-are_zero-2.branch [
      | else-are_zero-2-via-then-are_zero-2+else-changed w ↦ (let big : g.row.ROOTS / 2 < c.count_differing-changed.result = w.if-changed.false in absurd (omega arith))
      | else-are_zero-2-via-else-are_zero-2 w ↦ (let yes : IsTrue false = w.if-are_zero-2.ensures.1 zeros in cc)
    ]

pub returns-else-are_zero-2-clause-answer : goal.returns-else-are_zero-2-clause-answer
returns-else-are_zero-2-clause-answer g c = (refl, found g c)

pub returns-else-are_zero-2-clause-only : goal.returns-else-are_zero-2-clause-only
returns-else-are_zero-2-clause-only g c near isnear = absurd (found g c near isnear)
