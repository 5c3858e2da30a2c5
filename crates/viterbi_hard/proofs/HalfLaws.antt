-- Selecting by a comparison, and the least lane by halves.
use Rattle.std.proofs.Common.{◌≡◌, ℕ, ◌+◌, ◌-◌, ◌++◌, get_or, ◌<◌, ◌≤◌, ◌^◌, inl, inr, Bool, true, false, cond, List, length, map, refl, ◌∙◌, ap, sym, arith, w8, leb, length-append, Contains, All, eqb, ◌%◌}
use Rattle.std.specs.Prelude.{nat_lt}
use Rattle.std.proofs.lemmas.Bool.{agree_below_at, cases_lt, eqb-true, leb-true, leb-false, ltb-true, ltb-false}
use Rattle.std.proofs.lemmas.List.{get_or_append_left, get_or_default, get_or-map, length-map}
use Rattle.std.proofs.lemmas.Simd.{tops_compared, get_or-sel_l, get_or-zip2, length-zip2, length-sel_l, pick_l-range_with_len, get_or-chunk, length-chunk}
use Rattle.std.specs.List.{range_with_len}
use lib.Lanes.{pick_l, zip2, top, sel_l}

-- the lanes of as where a test of the lanes of xs and ys holds, else those of bs
abbrev pub selected : (ℕ → ℕ → Bool) → List ℕ → List ℕ → List ℕ → List ℕ → List ℕ
selected t xs ys as' bs = sel_l (map (top 7) (zip2 (λ a b. cond (t a b) (2 ^ 8 - 1) 0) xs ys)) as' bs

pub selected_at : (t : ℕ → ℕ → Bool) (xs ys as' bs : List ℕ) (m i : ℕ) → length xs ≡ m → length ys ≡ m → length as' ≡ m → length bs ≡ m → i < m →
    get_or (selected t xs ys as' bs) i 0 ≡ cond (t (get_or xs i 0) (get_or ys i 0)) (get_or as' i 0) (get_or bs i 0)
selected_at t xs ys as' bs m i ex ey ea eb h =
    let long = length-zip2 t xs ys (ex ∙ sym ey) in
    ap (λ ms. get_or (sel_l ms as' bs) i 0) (tops_compared w8 t xs ys)
    ∙ get_or-sel_l (zip2 t xs ys) as' bs i 0 (omega arith) (omega arith) (omega arith)
    ∙ ap (λ b. cond b (get_or as' i 0) (get_or bs i 0)) (get_or-zip2 t xs ys i 0 0 false (omega arith) (omega arith))

abbrev pub chosen : List ℕ → List ℕ → List ℕ → List ℕ → List ℕ
chosen = selected nat_lt

pub chosen_at : (xs ys as' bs : List ℕ) (m i : ℕ) → length xs ≡ m → length ys ≡ m → length as' ≡ m → length bs ≡ m → i < m →
    get_or (chosen xs ys as' bs) i 0 ≡ cond (nat_lt (get_or xs i 0) (get_or ys i 0)) (get_or as' i 0) (get_or bs i 0)
chosen_at xs ys as' bs m i = selected_at nat_lt xs ys as' bs m i

pub length-chosen : (xs ys as' bs : List ℕ) (m : ℕ) → length xs ≡ m → length ys ≡ m → length as' ≡ m → length bs ≡ m → length (chosen xs ys as' bs) ≡ m
length-chosen xs ys as' bs m ex ey ea eb =
    let long = length-zip2 nat_lt xs ys (ex ∙ sym ey) in
    ap (λ ms. length (sel_l ms as' bs)) (tops_compared w8 nat_lt xs ys)
    ∙ length-sel_l (zip2 nat_lt xs ys) as' bs (omega arith) (omega arith)
    ∙ omega arith

pub part_at : (v : List ℕ) (a m i : ℕ) → a + m ≤ length v → i < m → get_or (pick_l 0 (v ++ v) (range_with_len a m)) i 0 ≡ get_or v (a + i) 0
part_at v a m i room h =
    ap (λ l. get_or l i 0) (pick_l-range_with_len 0 (v ++ v) a m (omega (arith, length-append v v)))
    ∙ get_or-chunk a m (v ++ v) i 0 h
    ∙ get_or_append_left v v 0 (a + i) (omega arith)

pub length-part : (v : List ℕ) (a m : ℕ) → a + m ≤ length v → length (pick_l 0 (v ++ v) (range_with_len a m)) ≡ m
length-part v a m room =
    ap length (pick_l-range_with_len 0 (v ++ v) a m (omega (arith, length-append v v)))
    ∙ length-chunk a m (v ++ v) (omega (arith, length-append v v))

module _ (v : List ℕ) (m x : ℕ) (long : length v ≡ m + m) where
  abbrev pub lo : List ℕ
  lo = pick_l 0 (v ++ v) (range_with_len 0 m)

  abbrev pub hi : List ℕ
  hi = pick_l 0 (v ++ v) (range_with_len m m)

  abbrev pub least : List ℕ
  least = chosen lo hi lo hi

  lo_at : (i : ℕ) → i < m → get_or lo i 0 ≡ get_or v i 0
  lo_at i h = part_at v 0 m i (omega arith) h ∙ ap (λ k. get_or v k 0) (omega arith)

  hi_at : (i : ℕ) → i < m → get_or hi i 0 ≡ get_or v (m + i) 0
  hi_at i h = part_at v m m i (omega arith) h

  long_lo : length lo ≡ m
  long_lo = length-part v 0 m (omega arith)

  long_hi : length hi ≡ m
  long_hi = length-part v m m (omega arith)

  long_least : length least ≡ m
  long_least = length-chosen lo hi lo hi m long_lo long_hi long_lo long_hi

  cond_least : (a b : ℕ) → (cond (nat_lt a b) a b ≤ a) × (cond (nat_lt a b) a b ≤ b)
  cond_least a b = by_case a b (nat_lt a b) refl
    where
      by_case : (a b : ℕ) (t : Bool) → nat_lt a b ≡ t → (cond t a b ≤ a) × (cond t a b ≤ b)
      by_case a b true e = let lt : a < b = ltb-true a b e in (omega arith, omega arith)
      by_case a b false e = let le : b ≤ a = ltb-false a b e in (omega arith, omega arith)

  least_at : (i : ℕ) → i < m → get_or least i 0 ≡ cond (nat_lt (get_or v i 0) (get_or v (m + i) 0)) (get_or v i 0) (get_or v (m + i) 0)
  least_at i h =
      chosen_at lo hi lo hi m i long_lo long_hi long_lo long_hi h
      ∙ rw (lo_at i h, hi_at i h)

  pub least_below : All (λ y. x ≤ y) least → All (λ y. x ≤ y) v
  least_below h k d lt = elim (cases_lt k m) [
    | inl l ↦ omega (arith, h k 0 (omega (arith, long_least)), least_at k l, (cond_least (get_or v k 0) (get_or v (m + k) 0)).0, get_or_default v k d 0 lt)
    | inr l ↦
        let j : ℕ = k - m in
        let previous : m + (k - m) ≡ k = omega arith in
        omega (arith, h (k - m) 0 (omega (arith, long_least)), least_at (k - m) (omega arith), (cond_least (get_or v (k - m) 0) (get_or v (m + (k - m)) 0)).1, ap (λ n. get_or v n 0) previous, get_or_default v k d 0 lt)
  ]

  pick_case : (k : ℕ) (t : Bool) → k < m → cond t (get_or v k 0) (get_or v (m + k) 0) ≡ x → Contains v x
  pick_case k true l e = (k, omega arith, get_or_default v k x 0 (omega arith) ∙ e)
  pick_case k false l e = (m + k, omega arith, get_or_default v (m + k) x 0 (omega arith) ∙ e)

  pub least_lane : Contains least x → Contains v x
  least_lane h =
      let l : h.0 < m = omega (arith, h.1, long_least) in
      pick_case h.0 _ l (sym (least_at h.0 l) ∙ get_or_default least h.0 0 x h.1 ∙ h.2)

pub cond_swap : (a b : ℕ) → cond (nat_lt a b) a b ≡ cond (nat_lt b a) b a
cond_swap a b = by_case a b (nat_lt a b) (nat_lt b a) refl refl
  where
    by_case : (a b : ℕ) (s t : Bool) → nat_lt a b ≡ s → nat_lt b a ≡ t → cond s a b ≡ cond t b a
    by_case a b true true e f = let l : a < b = ltb-true a b e in let k : b < a = ltb-true b a f in omega arith
    by_case a b true false e f = refl
    by_case a b false true e f = refl
    by_case a b false false e f = let l : b ≤ a = ltb-false a b e in let k : a ≤ b = ltb-false b a f in omega arith

-- the one, where it is no more than the other
pub cond_turned : (a b x y : ℕ) → cond (leb a b) x y ≡ cond (nat_lt b a) y x
cond_turned a b x y = by_case (leb a b) (nat_lt b a) refl refl
  where
    by_case : (s t : Bool) → leb a b ≡ s → nat_lt b a ≡ t → cond s x y ≡ cond t y x
    by_case true true e f = let l : a ≤ b = leb-true a b e in let k : b < a = ltb-true b a f in absurd (omega arith)
    by_case true false e f = refl
    by_case false true e f = refl
    by_case false false e f = let l : b < a = leb-false a b e in let k : a ≤ b = ltb-false b a f in absurd (omega arith)

-- ---- sixteen lanes, folded by a rotation

-- the places of a rotation
abbrev pub turn : ℕ → List ℕ
turn k = range_with_len k (16 - k) ++ range_with_len 0 k

abbrev IsTurn : ℕ → Type 0
IsTurn k = (i : ℕ) → i < 16 → eqb (get_or (turn k) i 0) ((k + i) % 16) ≡ true

pub turn_eight : IsTurn 8
turn_eight i h = agree_below_at (λ i. eqb (get_or (turn 8) i 0) ((8 + i) % 16)) (λ _. true) 16 i refl h

pub turn_four : IsTurn 4
turn_four i h = agree_below_at (λ i. eqb (get_or (turn 4) i 0) ((4 + i) % 16)) (λ _. true) 16 i refl h

pub turn_two : IsTurn 2
turn_two i h = agree_below_at (λ i. eqb (get_or (turn 2) i 0) ((2 + i) % 16)) (λ _. true) 16 i refl h

pub turn_one : IsTurn 1
turn_one i h = agree_below_at (λ i. eqb (get_or (turn 1) i 0) ((1 + i) % 16)) (λ _. true) 16 i refl h

module _ (v : List ℕ) (k : ℕ) (long : length v ≡ 16) (size : length (turn k) ≡ 16) (is : IsTurn k) where
  abbrev turned : List ℕ
  turned = pick_l 0 (v ++ v) (turn k)

  abbrev pub folded : List ℕ
  folded = chosen v turned v turned

  length-turned : length turned ≡ 16
  length-turned = length-map (turn k) (λ j. get_or (v ++ v) j 0) ∙ size

  turned_at : (i : ℕ) → i < 16 → get_or turned i 0 ≡ get_or v ((k + i) % 16) 0
  turned_at i h =
      get_or-map (λ j. get_or (v ++ v) j 0) (turn k) i 0 0 (omega (arith, size))
      ∙ ap (λ j. get_or (v ++ v) j 0) (eqb-true _ _ (is i h))
      ∙ get_or_append_left v v 0 ((k + i) % 16) (omega arith)

  folded_at : (i : ℕ) → i < 16 → get_or folded i 0 ≡ cond (nat_lt (get_or v i 0) (get_or turned i 0)) (get_or v i 0) (get_or turned i 0)
  folded_at i h = chosen_at v turned v turned 16 i long length-turned long length-turned h

  either_le : (a b : ℕ) → (cond (nat_lt a b) a b ≤ a) × (cond (nat_lt a b) a b ≤ b)
  either_le a b = by_case (nat_lt a b) refl
    where
      by_case : (t : Bool) → nat_lt a b ≡ t → (cond t a b ≤ a) × (cond t a b ≤ b)
      by_case true e = let lt : a < b = ltb-true a b e in (omega arith, omega arith)
      by_case false e = let low : b ≤ a = ltb-false a b e in (omega arith, omega arith)

  pub folded_here : (i : ℕ) → i < 16 → get_or folded i 0 ≤ get_or v i 0
  folded_here i h = omega (arith, folded_at i h, (either_le (get_or v i 0) (get_or turned i 0)).0)

  pub folded_there : (i : ℕ) → i + k < 16 → get_or folded i 0 ≤ get_or v (i + k) 0
  folded_there i lt =
      let place : (k + i) % 16 ≡ i + k = omega arith in
      omega (arith, folded_at i (omega arith), turned_at i (omega arith), ap (λ m. get_or v m 0) place, (either_le (get_or v i 0) (get_or turned i 0)).1)

  pub folded_in : (i : ℕ) → i < 16 → (j : ℕ) × ((j < 16) × (get_or folded i 0 ≡ get_or v j 0))
  folded_in i h = by_case (nat_lt (get_or v i 0) (get_or turned i 0)) refl
    where
      by_case : (t : Bool) → nat_lt (get_or v i 0) (get_or turned i 0) ≡ t → (j : ℕ) × ((j < 16) × (get_or folded i 0 ≡ get_or v j 0))
      by_case true e = (i, (h, folded_at i h ∙ ap (λ b. cond b (get_or v i 0) (get_or turned i 0)) e))
      by_case false e = ((k + i) % 16, (omega arith, folded_at i h ∙ ap (λ b. cond b (get_or v i 0) (get_or turned i 0)) e ∙ turned_at i h))
