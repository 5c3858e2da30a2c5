-- Survivors and path metrics: the step law, and how far metrics spread.
use Rattle.std.proofs.Common.{◌≡◌, ℕ, ◌+◌, ◌*◌, ◌∷◌, ◌<◌, ◌≤◌, ◌⊎◌, inl, inr, Bool, true, false, cond, List, [], length, refl, sym, ◌∙◌, ap, arith, zero, suc}
use Rattle.std.specs.Prelude.{nat_lt}
use Rattle.std.proofs.lemmas.Bool.{cases_order, ltb-true, ltb-false}
use Rattle.std.proofs.Math.Nat.{eq-or-lt_of_le}
use Rattle.viterbi_hard.specs.declared.received.Decision.{Decision}
use Rattle.viterbi_hard.specs.declared.received.Decision.TheVariants.{Punctured, Zero, One}
use Rattle.viterbi_hard.specs.declared.received.Received.{Received}
use Rattle.isdbt_base.specs.Bits.{◌⊕◌}
use Rattle.viterbi_hard.specs.LeastPath.{no_later}
use Rattle.viterbi_hard.specs.Trellis.{IsChosen, Precedes, TrellisState, branch_metric, path_metric, survivor, previous, path_of, start_metric, differs}

pub differs_le : (m : Decision) (b : Bool) → differs m b ≤ 1
differs_le Punctured b = omega arith
differs_le Zero false = omega arith
differs_le Zero true = omega arith
differs_le One false = omega arith
differs_le One true = omega arith

pub branch_metric_le : (r : Received) (a b c d e f g : Bool) → branch_metric r a b c d e f g ≤ 2
unfolding branch_metric
branch_metric_le r a b c d e f g = omega (arith, differs_le r.x (a ⊕ b ⊕ c ⊕ d ⊕ g), differs_le r.y (a ⊕ c ⊕ d ⊕ f ⊕ g))

pub no_later_refl : (p : List Bool) → no_later p p ≡ true
no_later_refl [] = refl
no_later_refl (false ∷ p) = no_later_refl p
no_later_refl (true ∷ p) = no_later_refl p

pub no_later_same : (x : Bool) (p q : List Bool) → no_later (x ∷ p) (x ∷ q) ≡ no_later p q
no_later_same false p q = refl
no_later_same true p q = refl

pub no_later_whole : (s : TrellisState) (p q : List Bool) → no_later (path_of s p) (path_of s q) ≡ no_later p q
no_later_whole s p q = simp no_later_same

pub no_later_trans : (p q r : List Bool) → no_later p q ≡ true → no_later q r ≡ true → no_later p r ≡ true
no_later_trans [] q r h k = refl
no_later_trans (x ∷ p) [] r h k = cc
no_later_trans (x ∷ p) (y ∷ q) [] h k = cc
no_later_trans (false ∷ p) (false ∷ q) (false ∷ r) h k = no_later_trans p q r h k
no_later_trans (false ∷ p) (false ∷ q) (true ∷ r) h k = refl
no_later_trans (false ∷ p) (true ∷ q) (true ∷ r) h k = refl
no_later_trans (false ∷ p) (true ∷ q) (false ∷ r) h k = cc
no_later_trans (true ∷ p) (false ∷ q) r h k = cc
no_later_trans (true ∷ p) (true ∷ q) (false ∷ r) h k = cc
no_later_trans (true ∷ p) (true ∷ q) (true ∷ r) h k = no_later_trans p q r h k

-- p costs less by C than t, or as much and is no later
abbrev pub Beats : (List Bool → ℕ) → List Bool → List Bool → Type 0
Beats C p t = (C p < C t) ⊎ ((C p ≡ C t) × (no_later p t ≡ true))

-- the one of less cost, and p where they cost the same
abbrev pub kept : (List Bool → ℕ) → List Bool → List Bool → List Bool
kept C p q = cond (nat_lt (C q) (C p)) q p

kept_first_by : (C : List Bool → ℕ) (p q t : List Bool) (b : Bool) → nat_lt (C q) (C p) ≡ b → Beats C p t → Beats C (cond b q p) t
kept_first_by C p q t true e h =
    let lt : C q < C p = ltb-true (C q) (C p) e in
    elim h [ inl l ↦ inl (omega arith) | inr w ↦ inl (omega (arith, w.0)) ]
kept_first_by C p q t false e h = h

pub kept_first : (C : List Bool → ℕ) (p q t : List Bool) → Beats C p t → Beats C (kept C p q) t
kept_first C p q t h = kept_first_by C p q t (nat_lt (C q) (C p)) refl h

kept_second_le : (C : List Bool → ℕ) (p q t : List Bool) → C p ≤ C q → no_later p t ≡ true → Beats C q t → Beats C p t
kept_second_le C p q t le k h =
    elim h [
      | inl l ↦ inl (omega arith)
      | inr w ↦ elim (eq-or-lt_of_le le) [ inl e ↦ inr (omega (arith, w.0), k) | inr l ↦ inl (omega (arith, w.0)) ]
    ]

kept_second_by : (C : List Bool → ℕ) (p q t : List Bool) (b : Bool) → nat_lt (C q) (C p) ≡ b → no_later p t ≡ true → Beats C q t → Beats C (cond b q p) t
kept_second_by C p q t true e k h = h
kept_second_by C p q t false e k h = kept_second_le C p q t (ltb-false (C q) (C p) e) k h

pub kept_second : (C : List Bool → ℕ) (p q t : List Bool) → no_later p t ≡ true → Beats C q t → Beats C (kept C p q) t
kept_second C p q t k h = kept_second_by C p q t (nat_lt (C q) (C p)) refl k h

-- the same new bit, and the same step in front, keep the order
lift : (r : Received) (rs : List Received) (s : TrellisState) (g : Bool) (p t : List Bool) → Beats (path_metric rs (previous s g)) p t → Beats (path_metric (r ∷ rs) s) (g ∷ p) (g ∷ t)
lift r rs s g p t h =
    elim h [
      | inl l ↦ inl (omega arith)
      | inr w ↦ inr (ap (λ n. branch_metric r s.u1 s.u2 s.u3 s.u4 s.u5 s.u6 g + n) w.0, rw no_later_same w.1)
    ]

-- the step law: of the paths that end in state s the least is its survivor, which goes on from one of the survivors of the
-- two states before; on equal metrics from the one whose bit just before the state's six is 0
pub step-law : (rs : List Received) (s : TrellisState) (t : List Bool) → length t ≡ length rs → Beats (path_metric rs s) (survivor rs s) t
step-law [] s [] h = inr (refl, refl)
step-law [] s (x ∷ t) h = absurd (omega arith)
step-law (r ∷ rs) s [] h = absurd (omega arith)
step-law (r ∷ rs) s (false ∷ t) h =
    kept_first (path_metric (r ∷ rs) s) (false ∷ survivor rs (previous s false)) (true ∷ survivor rs (previous s true)) (false ∷ t)
    (lift r rs s false _ t (step-law rs (previous s false) t (omega arith)))
step-law (r ∷ rs) s (true ∷ t) h =
    kept_second (path_metric (r ∷ rs) s) (false ∷ survivor rs (previous s false)) (true ∷ survivor rs (previous s true)) (true ∷ t)
    refl
    (lift r rs s true _ t (step-law rs (previous s true) t (omega arith)))

length_kept : (b : Bool) (n : ℕ) (p q : List Bool) → length p ≡ n → length q ≡ n → length (cond b q p) ≡ n
length_kept true n p q h k = k
length_kept false n p q h k = h

pub length-survivor : (rs : List Received) (s : TrellisState) → length (survivor rs s) ≡ length rs
length-survivor [] s = refl
length-survivor (r ∷ rs) s =
    length_kept _ (suc (length rs)) (false ∷ survivor rs (previous s false)) (true ∷ survivor rs (previous s true))
    (ap suc (length-survivor rs (previous s false)))
    (ap suc (length-survivor rs (previous s true)))

pub start_metric_le : (s : TrellisState) → start_metric s ≤ 16
start_metric_le s = start_le _
  where
    start_le : (b : Bool) → cond b 16 0 ≤ 16
    start_le true = omega arith
    start_le false = omega arith

-- s and s' agree but for the newest k bits
abbrev pub Agree : ℕ → TrellisState → TrellisState → Type 0
Agree zero s s' = s ≡ s'
Agree (suc k) s s' = (g : Bool) → Agree k (previous s g) (previous s' g)

pub agree_six : (s s' : TrellisState) → Agree 6 s s'
agree_six s s' a b c d e f = refl

spread_k : (k : ℕ) (rs : List Received) (s s' : TrellisState) (t : List Bool) → Agree k s s' → path_metric rs s t ≤ path_metric rs s' t + 16 + 2 * k
spread_k zero rs s s' t h = let e : path_metric rs s t ≡ path_metric rs s' t = ap (λ v. path_metric rs v t) h in omega arith
spread_k (suc k) [] s s' t h = omega (arith, start_metric_le s)
spread_k (suc k) (r ∷ rs) s s' [] h = omega arith
spread_k (suc k) (r ∷ rs) s s' (g ∷ t) h =
    omega (arith, branch_metric_le r s.u1 s.u2 s.u3 s.u4 s.u5 s.u6 g, spread_k k rs (previous s g) (previous s' g) t (h g))

beats_le : (C : List Bool → ℕ) (p t : List Bool) → Beats C p t → C p ≤ C t
beats_le C p t h = elim h [ inl l ↦ omega arith | inr w ↦ omega (arith, w.0) ]

-- the path metrics of two states differ by at most 28, whatever was read: six steps cost at most 12, the start at most 16
pub spread : (rs : List Received) (s s' : TrellisState) → path_metric rs s (survivor rs s) ≤ path_metric rs s' (survivor rs s') + 28
spread rs s s' =
    omega (
      arith,
      beats_le (path_metric rs s) (survivor rs s) (survivor rs s') (step-law rs s (survivor rs s') (length-survivor rs s')),
      spread_k 6 rs s s' (survivor rs s') (agree_six s s'),
    )

spread-late : (k : ℕ) (rs : List Received) (s s' : TrellisState) (t : List Bool) → k ≤ length rs → Agree k s s' → path_metric rs s t ≤ path_metric rs s' t + 2 * k
spread-late zero rs s s' t le h = let e : path_metric rs s t ≡ path_metric rs s' t = ap (λ v. path_metric rs v t) h in omega arith
spread-late (suc k) [] s s' t le h = absurd (omega arith)
spread-late (suc k) (r ∷ rs) s s' [] le h = omega arith
spread-late (suc k) (r ∷ rs) s s' (g ∷ t) le h =
    omega (arith, branch_metric_le r s.u1 s.u2 s.u3 s.u4 s.u5 s.u6 g, spread-late k rs (previous s g) (previous s' g) t (omega arith) (h g))

-- the spread of metrics: from six steps on two of them differ by at most 12
pub spread-law : (rs : List Received) (s s' : TrellisState) → 6 ≤ length rs → path_metric rs s (survivor rs s) ≤ path_metric rs s' (survivor rs s') + 12
spread-law rs s s' le =
    omega (
      arith,
      beats_le (path_metric rs s) (survivor rs s) (survivor rs s') (step-law rs s (survivor rs s') (length-survivor rs s')),
      spread-late 6 rs s s' (survivor rs s') le (agree_six s s'),
    )

precedes_then : (rs : List Received) (s : TrellisState) (p : List Bool) (s' : TrellisState) (q t : List Bool) → Precedes rs s p s' q → Beats (path_metric rs s') q t → Precedes rs s p s' t
precedes_then rs s p s' q t h k =
    elim h [
      | inl l ↦ inl (omega (arith, beats_le (path_metric rs s') q t k))
      | inr w ↦ elim k [
        | inl l ↦ inl (omega (arith, w.0))
        | inr v ↦ inr (w.0 ∙ v.0, no_later_trans (path_of s p) (path_of s' q) (path_of s' t) w.1 (rw no_later_whole v.1))
      ]
    ]

-- the best of the survivors is the least of all paths
pub chosen_least : (rs : List Received) (s : TrellisState) → IsChosen rs s → (s' : TrellisState) (t : List Bool) → length t ≡ length rs → Precedes rs s (survivor rs s) s' t
chosen_least rs s h s' t e = precedes_then rs s _ s' (survivor rs s') t (h s') (step-law rs s' t e)

pub precedes_trans : (rs : List Received) (s : TrellisState) (p : List Bool) (s' : TrellisState) (q : List Bool) (s2 : TrellisState) (t : List Bool) → Precedes rs s p s' q → Precedes rs s' q s2 t → Precedes rs s p s2 t
precedes_trans rs s p s' q s2 t h k =
    elim h [
      | inl l ↦ elim k [ inl m ↦ inl (omega arith) | inr v ↦ inl (omega (arith, v.0)) ]
      | inr w ↦ elim k [
        | inl m ↦ inl (omega (arith, w.0))
        | inr v ↦ inr (w.0 ∙ v.0, no_later_trans (path_of s p) (path_of s' q) (path_of s2 t) w.1 v.1)
      ]
    ]

no_later_total : (p q : List Bool) → (no_later p q ≡ true) ⊎ (no_later q p ≡ true)
no_later_total [] q = inl refl
no_later_total (x ∷ p) [] = inr refl
no_later_total (false ∷ p) (false ∷ q) = no_later_total p q
no_later_total (true ∷ p) (true ∷ q) = no_later_total p q
no_later_total (false ∷ p) (true ∷ q) = inl refl
no_later_total (true ∷ p) (false ∷ q) = inr refl

pub precedes_total : (rs : List Received) (s : TrellisState) (p : List Bool) (s' : TrellisState) (q : List Bool) → Precedes rs s p s' q ⊎ Precedes rs s' q s p
precedes_total rs s p s' q =
    elim (cases_order (path_metric rs s p) (path_metric rs s' q)) [
      | inl e ↦ elim (no_later_total (path_of s p) (path_of s' q)) [ inl l ↦ inl (inr (e, l)) | inr l ↦ inr (inr (sym e, l)) ]
      | inr d ↦ elim d [ inl l ↦ inl (inl l) | inr l ↦ inr (inl l) ]
    ]
