-- The lane whose survivor is the best, and the bit that is decided on it.
use Rattle.std.proofs.Common.{◌≡◌, ℕ, zero, suc, ◌+◌, ◌-◌, ◌/◌, ◌^◌, ◌<◌, ◌≤◌, Bool, false, List, length, drop, take, get_or, refl, ap, sym, ◌∙◌, arith, inl, inr, subst}
use Rattle.std.proofs.Math.Nat.{eq-or-lt_of_le}
use Rattle.std.proofs.lemmas.List.{get_or-drop, get_or-take}
use Rattle.viterbi_hard.specs.declared.received.Received.{Received}
use Rattle.viterbi_hard.specs.Trellis.{IsChosen, IsDecided, Precedes, TrellisState, bit, newest_state, path_of, survivor}
use Rattle.viterbi_hard.specs.States.{AreTags, Holds, IsLabel, natural_of, odd, path_at, state_of}
use Rattle.viterbi_hard.specs.StandsFor.{HasLabel}
use Rattle.viterbi_hard.proofs.PackLaws.{lane_of, lane-lt, natural_order, natural_same, state-lane}
use Rattle.viterbi_hard.proofs.PathLaws.{label_back}
use Rattle.viterbi_hard.proofs.TrellisLaws.{no_later_refl, precedes_total, precedes_trans}
use Rattle.viterbi_hard.proofs.ZeroStart.{chosen_is_least}

-- the survivor of lane n is at least as good as that of lane m
abbrev Before : List Received → ℕ → ℕ → Type 0
Before rs n m = Precedes rs (state_of n) (survivor rs (state_of n)) (state_of m) (survivor rs (state_of m))

-- what is best among the lanes is best among the states
chosen_lane : (rs : List Received) (n : ℕ) → ((m : ℕ) → m < 64 → Before rs n m) → IsChosen rs (state_of n)
chosen_lane rs n h s = subst (λ v. Precedes rs (state_of n) (survivor rs (state_of n)) v (survivor rs v)) (state-lane s) (h (lane_of s) (lane-lt s))

-- the lane that the code picks is the best
pub chosen_first : (metrics : List ℕ) (since : ℕ) (rs : List Received) (n : ℕ) → Holds metrics since rs → n < 64
    → ((m : ℕ) → m < 64 → get_or metrics n 0 ≤ get_or metrics m 0)
    → ((m : ℕ) → m < 64 → get_or metrics m 0 ≡ get_or metrics n 0 → natural_of n ≤ natural_of m)
    → IsChosen rs (state_of n)
chosen_first metrics since rs n k h least first = chosen_lane rs n (λ m b. elim (eq-or-lt_of_le (least m b)) [
  | inr lt ↦ inl (omega (arith, lt, k.metric_of n h, k.metric_of m b))
  | inl e ↦ elim (eq-or-lt_of_le (first m b (sym e))) [
    | inl same ↦ subst (Before rs n) (natural_same n m h b same) (inr (refl, no_later_refl (path_at rs n)))
    | inr lt ↦ inr (omega (arith, e, k.metric_of n h, k.metric_of m b), natural_order n m (survivor rs (state_of n)) (survivor rs (state_of m)) h b lt)
  ]
])

-- there is a best one
best_below : (rs : List Received) (k : ℕ) → k < 64 → (n : ℕ) × (n < 64) × ((m : ℕ) → m < suc k → Before rs n m)
best_below rs zero h = (0, omega arith, λ m lt. let e : 0 ≡ m = omega arith in subst (Before rs 0) e (inr (refl, no_later_refl (path_at rs 0))))
best_below rs (suc k) h =
    let best = best_below rs k (omega arith) in
    elim (precedes_total rs (state_of best.0) (survivor rs (state_of best.0)) (state_of (suc k)) (survivor rs (state_of (suc k)))) [
      | inl stays ↦ (
        best.0,
        best.1,
        λ m lt. elim (eq-or-lt_of_le (le_of m k lt)) [
          | inl e ↦ subst (Before rs best.0) (sym e) stays
          | inr l ↦ best.2 m l
        ],
      )
      | inr other ↦ (
        suc k,
        h,
        λ m lt. elim (eq-or-lt_of_le (le_of m k lt)) [
          | inl e ↦ subst (Before rs (suc k)) (sym e) (inr (refl, no_later_refl (path_at rs (suc k))))
          | inr l ↦ precedes_trans rs _ _ _ _ _ _ other (best.2 m l)
        ],
      )
    ]
  where
    le_of : (m k : ℕ) → m < suc (suc k) → m ≤ suc k
    le_of m k lt = omega arith

some_chosen : (rs : List Received) → (n : ℕ) × (n < 64) × IsChosen rs (state_of n)
some_chosen rs = let best = best_below rs 63 (omega arith) in (best.0, best.1, chosen_lane rs best.0 (λ m h. best.2 m (omega arith)))

-- ---- the label of the decided bit

-- where it is that of all survivors at the boundary
pub label_ahead : (label age : ℕ) (rs : List Received) → ((n : ℕ) → n < 64 → IsLabel label (drop 120 (path_at (drop age rs) n))) → HasLabel label age rs
label_ahead label age rs f =
    let some = some_chosen rs in
    record {
      lane = some.0;
      chosen = some.2;
      is = label_back age rs some.0 (lane_of (newest_state (drop age (path_at rs some.0)))) (state-lane (newest_state (drop age (path_at rs some.0)))) 120 label (f (lane_of (newest_state (drop age (path_at rs some.0)))) (lane-lt (newest_state (drop age (path_at rs some.0)))));
    }

-- where it is that of the best survivor
pub label_found : (label age n : ℕ) (tags : List ℕ) (rs : List Received) → AreTags tags age rs → n < 64 → IsChosen rs (state_of n) → IsLabel label (drop 120 (path_at (drop age rs) (get_or tags n 0))) → HasLabel label age rs
label_found label age n tags rs t h chosen f = record {
  lane = n;
  chosen = chosen;
  is = label_back age rs n (get_or tags n 0) (t n h).state 120 label f;
}

-- the bit of the best survivor is that of the least path
decided : (rs : List Received) (s : TrellisState) (b : Bool) → IsChosen rs s → 128 ≤ length rs → bit (path_of s (survivor rs s)) 127 ≡ b → IsDecided rs b
decided rs s b h long e = record {
  path = take (length rs) (path_of s (survivor rs s));
  least = chosen_is_least rs s h;
  is = get_or-take (length rs) (path_of s (survivor rs s)) 127 false (omega arith) ∙ e;
}

-- the window law: bit 7 - age of the label is the decided one
pub window-law : (label age : ℕ) (rs : List Received) → HasLabel label age rs → age < 8 → 128 ≤ length rs → IsDecided rs (odd (label / 2 ^ (7 - age)))
window-law label age rs k young long =
    let place : age + 120 + (7 - age) ≡ 127 = omega arith in
    decided rs (state_of k.lane) (odd (label / 2 ^ (7 - age))) k.chosen long
    (ap (λ i. bit (path_at rs k.lane) i) (sym place) ∙ sym (get_or-drop (age + 120) (path_at rs k.lane) (7 - age) false) ∙ sym (k.is (7 - age) (omega arith)))
