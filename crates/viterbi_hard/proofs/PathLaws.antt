-- One step of the lanes, and survivors some steps ago.
use Rattle.std.proofs.Common.{◌≡◌, ℕ, zero, suc, ◌+◌, ◌-◌, ◌*◌, ◌/◌, ◌%◌, ◌<◌, ◌≤◌, ◌⊎◌, Bool, true, false, cond, List, [], ◌∷◌, length, drop, get_or, refl, subst, ap, sym, ◌∙◌, arith, add-one, inl, inr}
use Rattle.std.specs.Prelude.{nat_lt}
use Rattle.std.proofs.lemmas.Bool.Decides.{eqb_tells}
use Rattle.std.proofs.lemmas.Bool.{cases_lt, ltb-true, ltb-false, lt-ltb, le-ltb}
use Rattle.std.proofs.lemmas.List.{get_or-drop, get_or_past, drop_all}
use Rattle.viterbi_hard.specs.declared.received.Received.{Received}
use Rattle.viterbi_hard.specs.Trellis.{TrellisState, bit, newest_state, previous, path_metric, path_of, survivor}
use Rattle.viterbi_hard.specs.States.{AreLow, AreTags, Holds, IsLabel, IsTag, state_of, branch_metric_at, even_metric, odd, odd_metric, path_at, takes_odd, next_metric, next_tag}
use Rattle.viterbi_hard.proofs.StateLaws.{branch_metric_at_le, odd_same, previous-even, previous-odd, state_low}
use Rattle.viterbi_hard.proofs.TrellisLaws.{length-survivor, spread}

shifted_lt : (a b m : ℕ) → nat_lt (a + m) (b + m) ≡ nat_lt a b
shifted_lt a b m = by_case (nat_lt a b) refl
  where
    by_case : (t : Bool) → nat_lt a b ≡ t → nat_lt (a + m) (b + m) ≡ t
    by_case true e = let l : a < b = ltb-true a b e in lt-ltb (a + m) (b + m) (omega arith)
    by_case false e = let l : b ≤ a = ltb-false a b e in le-ltb (a + m) (b + m) (omega arith)

-- ---- one step

module _ (r : Received) (metrics : List ℕ) (since : ℕ) (rs : List Received) (k : Holds metrics since rs) (n : ℕ) (h : n < 64) where
  even_metric_is : path_metric (r ∷ rs) (state_of n) (false ∷ survivor rs (previous (state_of n) false)) ≡ even_metric r metrics n + k.base
  even_metric_is =
      ap (λ s. branch_metric_at r n false + path_metric rs s (survivor rs s)) (previous-even n h)
      ∙ omega (arith, k.metric_of (n / 2) (omega arith))

  odd_metric_is : path_metric (r ∷ rs) (state_of n) (true ∷ survivor rs (previous (state_of n) true)) ≡ odd_metric r metrics n + k.base
  odd_metric_is =
      ap (λ s. branch_metric_at r n true + path_metric rs s (survivor rs s)) (previous-odd n h)
      ∙ omega (arith, k.metric_of (32 + n / 2) (omega arith))

  choice : nat_lt (path_metric (r ∷ rs) (state_of n) (true ∷ survivor rs (previous (state_of n) true))) (path_metric (r ∷ rs) (state_of n) (false ∷ survivor rs (previous (state_of n) false))) ≡ takes_odd r metrics n
  choice = rw (odd_metric_is, even_metric_is) (shifted_lt (odd_metric r metrics n) (even_metric r metrics n) k.base)

  survivor_is : survivor (r ∷ rs) (state_of n) ≡ cond (takes_odd r metrics n) (true ∷ survivor rs (previous (state_of n) true)) (false ∷ survivor rs (previous (state_of n) false))
  survivor_is = ap (λ t. cond t (true ∷ survivor rs (previous (state_of n) true)) (false ∷ survivor rs (previous (state_of n) false))) choice

  next_metric_is : next_metric r metrics n + k.base ≡ path_metric (r ∷ rs) (state_of n) (survivor (r ∷ rs) (state_of n))
  next_metric_is = sym (ap (λ o. path_metric (r ∷ rs) (state_of n) o) survivor_is ∙ by_case (takes_odd r metrics n))
    where
      by_case : (t : Bool) → path_metric (r ∷ rs) (state_of n) (cond t (true ∷ survivor rs (previous (state_of n) true)) (false ∷ survivor rs (previous (state_of n) false))) ≡ cond t (odd_metric r metrics n) (even_metric r metrics n) + k.base
      by_case true = odd_metric_is
      by_case false = even_metric_is

  -- its path goes on from that of the lane before
  pub path_is : path_at (r ∷ rs) n ≡ odd n ∷ path_at rs (cond (takes_odd r metrics n) (32 + n / 2) (n / 2))
  path_is = ap (λ o. path_of (state_of n) o) survivor_is ∙ by_case (takes_odd r metrics n)
    where
      by_case : (t : Bool) → path_of (state_of n) (cond t (true ∷ survivor rs (previous (state_of n) true)) (false ∷ survivor rs (previous (state_of n) false))) ≡ odd n ∷ path_at rs (cond t (32 + n / 2) (n / 2))
      by_case true = ap (λ s. odd n ∷ path_of s (survivor rs s)) (previous-odd n h)
      by_case false = ap (λ s. odd n ∷ path_of s (survivor rs s)) (previous-even n h)

  next_low : next_metric r metrics n ≤ 28 + 2 * (since + 1)
  next_low = by_case (takes_odd r metrics n)
    where
      by_case : (t : Bool) → cond t (odd_metric r metrics n) (even_metric r metrics n) ≤ 28 + 2 * (since + 1)
      by_case true = omega (arith, k.low (32 + n / 2) (omega arith), branch_metric_at_le r n true)
      by_case false = omega (arith, k.low (n / 2) (omega arith), branch_metric_at_le r n false)

  before-lt : cond (takes_odd r metrics n) (32 + n / 2) (n / 2) < 64
  before-lt = by_case (takes_odd r metrics n)
    where
      by_case : (t : Bool) → cond t (32 + n / 2) (n / 2) < 64
      by_case true = omega arith
      by_case false = omega arith

  next_tag_is : (tags : List ℕ) → next_tag r metrics tags n ≡ get_or tags (cond (takes_odd r metrics n) (32 + n / 2) (n / 2)) 0
  next_tag_is tags = by_case (takes_odd r metrics n)
    where
      by_case : (t : Bool) → cond t (get_or tags (32 + n / 2) 0) (get_or tags (n / 2) 0) ≡ get_or tags (cond t (32 + n / 2) (n / 2)) 0
      by_case true = refl
      by_case false = refl

pub are_low : (metrics : List ℕ) (since : ℕ) (rs : List Received) → Holds metrics since rs → since < 64 → AreLow metrics
are_low metrics since rs k lt = λ n h. omega (arith, k.low n h)

-- the metrics one step on
pub holds_next :
    (r : Received) (metrics new_metrics : List ℕ) (since : ℕ) (rs : List Received)
    → Holds metrics since rs
    → ((n : ℕ) → n < 64 → get_or new_metrics n 0 ≡ next_metric r metrics n)
    → Holds new_metrics (since + 1) (r ∷ rs)
holds_next r metrics new_metrics since rs k c = record {
  base = k.base;
  metric_of = λ n h. omega (arith, c n h, next_metric_is r metrics since rs k n h);
  low = λ n h. omega (arith, c n h, next_low r metrics since rs k n h);
}

-- and lowered
pub holds_lowered :
    (metrics new_metrics : List ℕ) (since : ℕ) (rs : List Received) (m n0 : ℕ)
    → Holds metrics since rs
    → n0 < 64 → get_or metrics n0 0 ≡ m
    → ((n : ℕ) → n < 64 → m ≤ get_or metrics n 0)
    → ((n : ℕ) → n < 64 → get_or new_metrics n 0 ≡ get_or metrics n 0 - m)
    → Holds new_metrics 0 rs
holds_lowered metrics new_metrics since rs m n0 k h0 e0 least c = record {
  base = k.base + m;
  metric_of = λ n h. omega (arith, c n h, least n h, k.metric_of n h);
  low = λ n h. omega (arith, c n h, least n h, k.metric_of n h, k.metric_of n0 h0, spread rs (state_of n) (state_of n0));
}

-- ---- tags

-- a tag stays that of a path that goes on by a bit, but from the first step behind the boundary to the second
tag_step : (tag age : ℕ) (x : Bool) (l : List Bool) → ((age ≡ 0) ⊎ (2 ≤ age)) → IsTag tag age l → IsTag tag (suc age) (x ∷ l)
tag_step tag age x l c t = record {
  state = t.state;
  first = λ le. elim c [
    | inl e ↦ absurd (omega arith)
    | inr many ↦ (let place : suc age - 1 ≡ suc (age - 1) = omega arith in t.first many ∙ ap (λ i. get_or (x ∷ l) i false) (sym place))
  ];
  second = λ le. elim c [
    | inl e ↦ absurd (omega arith)
    | inr many ↦ (let place : suc age - 2 ≡ suc (age - 2) = omega arith in t.second many ∙ ap (λ i. get_or (x ∷ l) i false) (sym place))
  ];
  young = λ lt. elim c [
    | inl e ↦ t.young (omega arith)
    | inr many ↦ absurd (omega arith)
  ];
}

-- and there it gets the two bits
tag_marked : (tag n : ℕ) (rs : List Received) (l : List Bool) → path_at rs n ≡ odd n ∷ l → IsTag tag 1 l → IsTag (tag + 64 * (n % 4)) 2 (path_at rs n)
tag_marked tag n rs l e t =
    let low : tag < 64 = t.young (omega arith) in
    record {
      state = state_low tag (n % 4) ∙ t.state ∙ ap (λ p. newest_state (drop 2 p)) (sym e);
      first = λ le. odd_same ((tag + 64 * (n % 4)) / 128) (n / 2) (omega arith);
      second = λ le. odd_same ((tag + 64 * (n % 4)) / 64) n (omega arith);
      young = λ lt. absurd (omega arith);
    }

module _ (r : Received) (metrics tags new_tags : List ℕ) (since age : ℕ) (rs : List Received) (k : Holds metrics since rs) (t : AreTags tags age rs)
    (is : (n : ℕ) → n < 64 → get_or new_tags n 0 ≡ next_tag r metrics tags n) where
  before : (n : ℕ) → n < 64 → IsTag (get_or new_tags n 0) age (path_at rs (cond (takes_odd r metrics n) (32 + n / 2) (n / 2)))
  before n h =
      subst (λ v. IsTag v age (path_at rs (cond (takes_odd r metrics n) (32 + n / 2) (n / 2)))) (sym (is n h ∙ next_tag_is r metrics since rs k n h tags))
      (t (cond (takes_odd r metrics n) (32 + n / 2) (n / 2)) (before-lt r metrics since rs k n h))

  pub tags_next : ((age ≡ 0) ⊎ (2 ≤ age)) → AreTags new_tags (age + 1) (r ∷ rs)
  tags_next c n h =
      subst (λ p. IsTag (get_or new_tags n 0) (age + 1) p) (sym (path_is r metrics since rs k n h))
      (subst (λ a. IsTag (get_or new_tags n 0) a (odd n ∷ path_at rs (cond (takes_odd r metrics n) (32 + n / 2) (n / 2)))) (sym (add-one age))
      (tag_step _ age _ _ c (before n h)))

  pub tags_marked : (marked : List ℕ) → age ≡ 1 → ((n : ℕ) → n < 64 → get_or new_tags n 0 < 64 → get_or marked n 0 ≡ get_or new_tags n 0 + 64 * (n % 4)) → AreTags marked (age + 1) (r ∷ rs)
  tags_marked marked e m n h =
      let one : IsTag (get_or new_tags n 0) 1 (path_at rs (cond (takes_odd r metrics n) (32 + n / 2) (n / 2))) = subst (λ a. IsTag (get_or new_tags n 0) a (path_at rs (cond (takes_odd r metrics n) (32 + n / 2) (n / 2)))) e (before n h) in
      let two : 2 ≡ age + 1 = omega arith in
      subst (λ a. IsTag (get_or marked n 0) a (path_at (r ∷ rs) n)) two
      (subst (λ v. IsTag v 2 (path_at (r ∷ rs) n)) (sym (m n h (one.young (omega arith))))
      (tag_marked _ n (r ∷ rs) _ (path_is r metrics since rs k n h) one))

other_age : (age : ℕ) → (age ≡ 1 → ⊥) → (age ≡ 0) ⊎ (2 ≤ age)
other_age zero ne = inl refl
other_age (suc zero) ne = absurd (ne refl)
other_age (suc (suc age)) ne = inr (omega arith)

-- what the code computes
pub tags_after : (r : Received) (metrics tags new_tags after : List ℕ) (since age : ℕ) (rs : List Received) → Holds metrics since rs → AreTags tags age rs
    → ((n : ℕ) → n < 64 → get_or new_tags n 0 ≡ next_tag r metrics tags n)
    → (age ≡ 1 → (n : ℕ) → n < 64 → get_or new_tags n 0 < 64 → get_or after n 0 ≡ get_or new_tags n 0 + 64 * (n % 4))
    → ((age ≡ 1 → ⊥) → after ≡ new_tags)
    → AreTags after (age + 1) (r ∷ rs)
tags_after r metrics tags new_tags after since age rs k t is second other = elim (eqb_tells age 1) [
  | inl e ↦ tags_marked r metrics tags new_tags since age rs k t is after e.1 (second e.1)
  | inr ne ↦ subst (λ l. AreTags l (age + 1) (r ∷ rs)) (sym (other ne.1)) (tags_next r metrics tags new_tags since age rs k t is (other_age age ne.1))
]

-- ---- survivors some steps ago

-- a survivor without its newest m bits was the survivor of its state
ancestor : (m : ℕ) (rs : List Received) (s : TrellisState) → m ≤ length rs → (s' : TrellisState) × (drop m (path_of s (survivor rs s)) ≡ path_of s' (survivor (drop m rs) s'))
ancestor zero rs s h = (s, refl)
ancestor (suc m) [] s h = absurd (omega arith)
ancestor (suc m) (r ∷ rs) s h =
    by_case
    (nat_lt (path_metric (r ∷ rs) s (true ∷ survivor rs (previous s true))) (path_metric (r ∷ rs) s (false ∷ survivor rs (previous s false))))
    (ancestor m rs (previous s true) (omega arith))
    (ancestor m rs (previous s false) (omega arith))
  where
    by_case : (t : Bool)
        → ((s' : TrellisState) × (drop m (path_of (previous s true) (survivor rs (previous s true))) ≡ path_of s' (survivor (drop m rs) s')))
        → ((s' : TrellisState) × (drop m (path_of (previous s false) (survivor rs (previous s false))) ≡ path_of s' (survivor (drop m rs) s')))
        → (s' : TrellisState) × (drop (suc m) (path_of s (cond t (true ∷ survivor rs (previous s true)) (false ∷ survivor rs (previous s false)))) ≡ path_of s' (survivor (drop m rs) s'))
    by_case true a b = a
    by_case false a b = b

state_bits : (l : List Bool) (i : ℕ) → i < 6 → bit (path_of (newest_state l) []) i ≡ bit l i
state_bits l zero h = refl
state_bits l (suc zero) h = refl
state_bits l (suc (suc zero)) h = refl
state_bits l (suc (suc (suc zero))) h = refl
state_bits l (suc (suc (suc (suc zero)))) h = refl
state_bits l (suc (suc (suc (suc (suc zero))))) h = refl
state_bits l (suc (suc (suc (suc (suc (suc i)))))) h = absurd (omega arith)

-- behind the first step there are zeros
nothing_left : (m : ℕ) (l : List Bool) (i : ℕ) → length l < m + 6 → bit (path_of (newest_state (drop m l)) []) i ≡ bit l (m + i)
nothing_left m l i h = elim (cases_lt i 6) [
  | inl lt ↦ state_bits (drop m l) i lt ∙ get_or-drop m l i false
  | inr le ↦ get_or_past (path_of (newest_state (drop m l)) []) i false (omega arith) ∙ sym (get_or_past l (m + i) false (omega arith))
]

-- so its bits are those of the survivor of the state that it was in
bits_ago : (m : ℕ) (rs : List Received) (s : TrellisState) (i : ℕ)
    → bit (path_of (newest_state (drop m (path_of s (survivor rs s)))) (survivor (drop m rs) (newest_state (drop m (path_of s (survivor rs s)))))) i ≡ bit (path_of s (survivor rs s)) (m + i)
bits_ago m rs s i =
    elim (cases_lt (length rs) m) [
      | inl lt ↦
          ap (λ q. bit (path_of (newest_state (drop m (path_of s (survivor rs s)))) (survivor q (newest_state (drop m (path_of s (survivor rs s)))))) i) (drop_all m rs (omega arith))
          ∙ nothing_left m (path_of s (survivor rs s)) i (omega (arith, length-survivor rs s))
      | inr le ↦
          let a = ancestor m rs s le in
          let e : newest_state (drop m (path_of s (survivor rs s))) ≡ a.0 = ap newest_state a.1 in
          ap (λ v. bit (path_of v (survivor (drop m rs) v)) i) e ∙ ap (λ l. bit l i) (sym a.1) ∙ get_or-drop m (path_of s (survivor rs s)) i false
    ]

module _ (m : ℕ) (rs : List Received) (n lane : ℕ) (e : state_of lane ≡ newest_state (drop m (path_at rs n))) where
  bits_back : (i : ℕ) → bit (path_at (drop m rs) lane) i ≡ bit (path_at rs n) (m + i)
  bits_back i = ap (λ v. bit (path_of v (survivor (drop m rs) v)) i) e ∙ bits_ago m rs (state_of n) i

  drop_back : (b i : ℕ) → bit (drop b (path_at (drop m rs) lane)) i ≡ bit (drop (m + b) (path_at rs n)) i
  drop_back b i =
      let place : m + (b + i) ≡ m + b + i = omega arith in
      get_or-drop b (path_at (drop m rs) lane) i false
      ∙ bits_back (b + i)
      ∙ ap (λ j. bit (path_at rs n) j) place
      ∙ sym (get_or-drop (m + b) (path_at rs n) i false)

  -- a label of its path then is one of its path now
  pub label_back : (b label : ℕ) → IsLabel label (drop b (path_at (drop m rs) lane)) → IsLabel label (drop (m + b) (path_at rs n))
  label_back b label f = λ j h. f j h ∙ drop_back b j

  pub label_here : (label : ℕ) → IsLabel label (path_at (drop m rs) lane) → IsLabel label (drop m (path_at rs n))
  label_here label f = λ j h. f j h ∙ bits_back j ∙ sym (get_or-drop m (path_at rs n) j false)

  -- the lane before then is the lane before that
  pub state_back : (b tag : ℕ) → state_of tag ≡ newest_state (drop b (path_at (drop m rs) lane)) → state_of tag ≡ newest_state (drop (m + b) (path_at rs n))
  state_back b tag f = f ∙ rw (drop_back b 0, drop_back b 1, drop_back b 2, drop_back b 3, drop_back b 4, drop_back b 5)

-- the label of a block, from the lane at its end and the tag there
pub label_of_tag : (lane tag : ℕ) (rs : List Received) → lane < 64 → IsTag tag 8 (path_at rs lane) → IsLabel (lane + 64 * (tag / 64)) (path_at rs lane)
label_of_tag lane tag rs h t zero lt = odd_same _ _ (omega arith)
label_of_tag lane tag rs h t (suc zero) lt = odd_same _ _ (omega arith)
label_of_tag lane tag rs h t (suc (suc zero)) lt = odd_same _ _ (omega arith)
label_of_tag lane tag rs h t (suc (suc (suc zero))) lt = odd_same _ _ (omega arith)
label_of_tag lane tag rs h t (suc (suc (suc (suc zero)))) lt = odd_same _ _ (omega arith)
label_of_tag lane tag rs h t (suc (suc (suc (suc (suc zero))))) lt = odd_same _ _ (omega arith)
label_of_tag lane tag rs h t (suc (suc (suc (suc (suc (suc zero)))))) lt = odd_same ((lane + 64 * (tag / 64)) / 64) (tag / 64) (omega arith) ∙ t.second (omega arith)
label_of_tag lane tag rs h t (suc (suc (suc (suc (suc (suc (suc zero))))))) lt = odd_same ((lane + 64 * (tag / 64)) / 128) (tag / 128) (omega arith) ∙ t.first (omega arith)
label_of_tag lane tag rs h t (suc (suc (suc (suc (suc (suc (suc (suc j)))))))) lt = absurd (omega arith)
