-- There is one least path.
use Rattle.std.proofs.Common.{◌≡◌, ℕ, Bool, true, false, List, [], ◌∷◌, length, refl, ap, sym, ◌∙◌, arith, inl, inr}
use Rattle.viterbi_hard.specs.LeastPath.{no_later, IsLeast}

no_later_both : (p q : List Bool) → length p ≡ length q → no_later p q ≡ true → no_later q p ≡ true → p ≡ q
no_later_both [] [] e h k = refl
no_later_both [] (y ∷ q) e h k = absurd (omega arith)
no_later_both (x ∷ p) [] e h k = absurd (omega arith)
no_later_both (false ∷ p) (false ∷ q) e h k = ap (λ l. false ∷ l) (no_later_both p q (omega arith) h k)
no_later_both (true ∷ p) (true ∷ q) e h k = ap (λ l. true ∷ l) (no_later_both p q (omega arith) h k)
no_later_both (false ∷ p) (true ∷ q) e h k = cc
no_later_both (true ∷ p) (false ∷ q) e h k = cc

pub least-unique : (cost : List Bool → ℕ) (n : ℕ) (p q : List Bool) → IsLeast cost n p → IsLeast cost n q → p ≡ q
least-unique cost n p q a b = elim (a.least q b.long) [
  | inl l ↦ elim (b.least p a.long) [ inl m ↦ absurd (omega arith) | inr m ↦ absurd (omega (arith, m.0)) ]
  | inr l ↦ elim (b.least p a.long) [ inl m ↦ absurd (omega (arith, l.0)) | inr m ↦ no_later_both p q (a.long ∙ sym b.long) l.1 m.1 ]
]
