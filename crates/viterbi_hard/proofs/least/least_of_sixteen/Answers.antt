use Rattle.std.proofs.Common.{◌≡◌, ◌+◌, ◌-◌, ◌<◌, ◌≤◌, ◌∙◌, ℕ, List, arith, ap, get_or, sym, inl, inr}
use Rattle.std.proofs.lemmas.Bool.{cases_lt}
use Rattle.std.proofs.lemmas.List.{get_or_default}
use Rattle.viterbi_hard.proofs.least.least_of_sixteen.Goals as goal

-- a lane below 2 * k against the folded one
fold_le : (old new : List ℕ) (k j : ℕ) → ((i : ℕ) → i < k → get_or new i 0 ≤ get_or old i 0) → ((i : ℕ) → i < k → get_or new i 0 ≤ get_or old (i + k) 0) → j < k + k
    → (i : ℕ) × ((i < k) × (get_or new i 0 ≤ get_or old j 0))
fold_le old new k j here there h = elim (cases_lt j k) [
  | inl l ↦ (j, (l, here j l))
  | inr l ↦
      let place : j - k + k ≡ j = omega arith in
      let lt : j - k < k = omega arith in
      (j - k, (lt, omega (arith, there (j - k) lt, ap (λ m. get_or old m 0) place)))
]

pub returns-clause-least : goal.returns-clause-least
returns-clause-least c = λ k d h.
    let one = fold_le c.args.v c.folded_by_eight-eight.result 8 k c.folded_by_eight-eight.ensures.here c.folded_by_eight-eight.ensures.there (omega (arith, c.fits-v.0)) in
    let two = fold_le c.folded_by_eight-eight.result c.folded_by_four-four.result 4 one.0 c.folded_by_four-four.ensures.here c.folded_by_four-four.ensures.there (omega (arith, one.1.0)) in
    let three = fold_le c.folded_by_four-four.result c.folded_by_two-two.result 2 two.0 c.folded_by_two-two.ensures.here c.folded_by_two-two.ensures.there (omega (arith, two.1.0)) in
    let four = fold_le c.folded_by_two-two.result c.folded_by_one-one.result 1 three.0 c.folded_by_one-one.ensures.here c.folded_by_one-one.ensures.there (omega (arith, three.1.0)) in
    let first : four.0 ≡ 0 = omega (arith, four.1.0) in
    omega (arith, one.1.1, two.1.1, three.1.1, four.1.1, ap (λ m. get_or c.folded_by_one-one.result m 0) first, get_or_default c.args.v k d 0 h)

pub returns-clause-lane : goal.returns-clause-lane
returns-clause-lane c =
    let one = c.folded_by_one-one.ensures.lane 0 (omega arith) in
    let two = c.folded_by_two-two.ensures.lane one.0 one.1.0 in
    let four = c.folded_by_four-four.ensures.lane two.0 two.1.0 in
    let eight = c.folded_by_eight-eight.ensures.lane four.0 four.1.0 in
    (eight.0, omega (arith, eight.1.0, c.fits-v.0), get_or_default c.args.v eight.0 _ 0 (omega (arith, eight.1.0, c.fits-v.0)) ∙ sym (one.1.1 ∙ two.1.1 ∙ four.1.1 ∙ eight.1.1))
