-- Vector operations, lane by lane.
use Rattle.std.proofs.Common.{◌≡◌, ℕ, ◌+◌, ◌*◌, ◌++◌, get_or, ◌∷◌, ◌<◌, ◌≤◌, ◌^◌, ◌%◌, ◌/◌, eqb, Bool, true, false, List, [], length, replicate, cond, ◌-◌, map, refl, sym, ◌∙◌, ap, arith, w8, Fits, bit_and, All, Contains}
use Rattle.std.proofs.lemmas.Bool.{agree_below_at, eq-eqb, eqb-true, eqb-false}
use Rattle.std.proofs.lemmas.List.{get_or_default, get_or-append-add, get_or-map, get_or-replicate, get_or_append_left, length-replicate}
use Rattle.std.proofs.lemmas.Grind.{same_number_lists}
use Rattle.std.proofs.lemmas.Nat.{and_le_r, and_mask}
use Rattle.std.proofs.lemmas.Simd.{Each1-all, Each1-get_or, Each1-zip2, Each2-splat, SwzOk, SwzOk-from_below, bit_mask_l, bitmask_splat, get_or-swz_l_below, get_or-zip2, length-zip2, pick_l_whole, swz_l, zip2_splat}
use Rattle.std.specs.List.{range_with_len}
use lib.Lanes.{Each1, pick_l, mask_l, zip2, top}
use Rattle.viterbi_hard.specs.declared.lanes.TheConstants.{FIRST_BITS}
use Rattle.viterbi_hard.specs.declared.least.TheConstants.{NATURAL}
use Rattle.viterbi_hard.specs.States.{natural_of}
use Rattle.viterbi_hard.proofs.HalfLaws.{selected, selected_at}

-- a vector of bytes
abbrev pub IsVector : List ℕ → Type 0
IsVector v = (length v ≡ 64) × Each1 (Fits w8) v

pub lane_fits : (v : List ℕ) (i : ℕ) → IsVector v → i < 64 → get_or v i 0 < 256
lane_fits v i f h = (Each1-get_or (Fits w8) v i 0 (omega (arith, f.0)) f.1).fits

-- lane by lane, where no lane overflows
pub added_at : (xs ys : List ℕ) (m i : ℕ) → length xs ≡ m → length ys ≡ m → i < m → get_or xs i 0 + get_or ys i 0 < 256 →
    get_or (zip2 (λ a b. (a + b) % 256) xs ys) i 0 ≡ get_or xs i 0 + get_or ys i 0
added_at xs ys m i ex ey h fits = get_or-zip2 (λ a b. (a + b) % 256) xs ys i 0 0 0 (omega arith) (omega arith) ∙ omega arith

pub lowered_at : (v : List ℕ) (least i : ℕ) → length v ≡ 64 → i < 64 → least ≤ get_or v i 0 → get_or v i 0 < 256 →
    get_or (zip2 (λ a b. (a + (256 - b)) % 256) v (replicate 64 least)) i 0 ≡ get_or v i 0 - least
lowered_at v least i long h le lt =
    ap (λ l. get_or l i 0) (zip2_splat (λ a b. (a + (256 - b)) % 256) v 64 least long)
    ∙ get_or-map (λ a. (a + (256 - least)) % 256) v i 0 0 (omega arith)
    ∙ omega arith

-- ---- two vectors woven into one another

abbrev pub low_weave : List ℕ
low_weave = 0 ∷ 32 ∷ 1 ∷ 33 ∷ 2 ∷ 34 ∷ 3 ∷ 35 ∷ 4 ∷ 36 ∷ 5 ∷ 37 ∷ 6 ∷ 38 ∷ 7 ∷ 39 ∷ 8 ∷ 40 ∷ 9 ∷ 41 ∷ 10 ∷ 42 ∷ 11 ∷ 43 ∷ 12 ∷ 44 ∷ 13 ∷ 45 ∷ 14 ∷ 46 ∷ 15 ∷ 47 ∷ []

abbrev pub high_weave : List ℕ
high_weave = 16 ∷ 48 ∷ 17 ∷ 49 ∷ 18 ∷ 50 ∷ 19 ∷ 51 ∷ 20 ∷ 52 ∷ 21 ∷ 53 ∷ 22 ∷ 54 ∷ 23 ∷ 55 ∷ 24 ∷ 56 ∷ 25 ∷ 57 ∷ 26 ∷ 58 ∷ 27 ∷ 59 ∷ 28 ∷ 60 ∷ 29 ∷ 61 ∷ 30 ∷ 62 ∷ 31 ∷ 63 ∷ []

abbrev weave : List ℕ
weave = low_weave ++ high_weave

weave_place : (i : ℕ) → i < 64 → eqb (get_or weave i 0) (32 * (i % 2) + i / 2) ≡ true
weave_place i h = agree_below_at (λ i. eqb (get_or weave i 0) (32 * (i % 2) + i / 2)) (λ _. true) 64 i refl h

module _ (zs os : List ℕ) (ez : length zs ≡ 32) (eo : length os ≡ 32) where
  abbrev pub woven : List ℕ
  woven = pick_l 0 (pick_l 0 (zs ++ os) low_weave ++ pick_l 0 (zs ++ os) high_weave) (range_with_len 0 64)

  woven_at : (i k : ℕ) → i < 64 → 32 * (i % 2) + i / 2 ≡ k → get_or woven i 0 ≡ get_or (zs ++ os) k 0
  woven_at i k h e =
      ap (λ l. get_or l i 0) (pick_l_whole 0 (pick_l 0 (zs ++ os) weave) 64 refl)
      ∙ get_or-map (λ j. get_or (zs ++ os) j 0) weave i 0 0 h
      ∙ ap (λ j. get_or (zs ++ os) j 0) (eqb-true _ _ (weave_place i h) ∙ e)

  pub woven_zero : (i : ℕ) → i < 32 → get_or woven (2 * i) 0 ≡ get_or zs i 0
  woven_zero i h = woven_at (2 * i) i (omega arith) (omega arith) ∙ get_or_append_left zs os 0 i (omega arith)

  pub woven_one : (i : ℕ) → i < 32 → get_or woven (2 * i + 1) 0 ≡ get_or os i 0
  woven_one i h =
      let place : 32 + i ≡ length zs + i = omega arith in
      woven_at (2 * i + 1) (32 + i) (omega arith) (omega arith)
      ∙ ap (λ k. get_or (zs ++ os) k 0) place
      ∙ get_or-append-add zs os i 0

-- ---- the first two bits of a block

first_bits : (n : ℕ) → n < 64 → get_or FIRST_BITS n 0 ≡ 64 * (n % 4)
first_bits n h = eqb-true _ _ (agree_below_at (λ n. eqb (get_or FIRST_BITS n 0) (64 * (n % 4))) (λ _. true) 64 n refl h)

pub marked_at : (tags : List ℕ) (n : ℕ) → length tags ≡ 64 → n < 64 → get_or tags n 0 < 64 → get_or (zip2 (λ a b. (a + b) % 256) tags FIRST_BITS) n 0 ≡ get_or tags n 0 + 64 * (n % 4)
marked_at tags n long h low = added_at tags FIRST_BITS 64 n long refl h (omega (arith, first_bits n h)) ∙ ap (λ k. get_or tags n 0 + k) (first_bits n h)

-- ---- lanes by tags

pub masked_at : (v : List ℕ) (mask i : ℕ) → length v ≡ 64 → i < 64 → get_or (zip2 bit_and v (replicate 64 mask)) i 0 ≡ bit_and (get_or v i 0) mask
masked_at v mask i long h = ap (λ l. get_or l i 0) (zip2_splat bit_and v 64 mask long) ∙ get_or-map (λ a. bit_and a mask) v i 0 0 (omega arith)

pub lanes_at : (v : List ℕ) (i : ℕ) → length v ≡ 64 → i < 64 → get_or (zip2 bit_and v (replicate 64 63)) i 0 ≡ get_or v i 0 % 64
lanes_at v i long h = masked_at v 63 i long h ∙ and_mask (get_or v i 0) 6

pub labels_at : (lanes tags began : List ℕ) (i : ℕ) → length lanes ≡ 64 → IsVector tags → length began ≡ 64 → i < 64 → get_or began i 0 ≡ get_or tags i 0 % 64 → get_or lanes i 0 < 64 →
    get_or (zip2 (λ a b. (a + b) % 256) lanes (zip2 (λ a b. (a + (256 - b)) % 256) tags began)) i 0 ≡ get_or lanes i 0 + 64 * (get_or tags i 0 / 64)
labels_at lanes tags began i el ft eb h e low =
    let rest : get_or (zip2 (λ a b. (a + (256 - b)) % 256) tags began) i 0 ≡ (get_or tags i 0 + (256 - get_or began i 0)) % 256 =
    get_or-zip2 (λ a b. (a + (256 - b)) % 256) tags began i 0 0 0 (omega (arith, ft.0)) (omega arith) in
    let long = length-zip2 (λ a b. (a + (256 - b)) % 256) tags began (ft.0 ∙ sym eb) in
    get_or-zip2 (λ a b. (a + b) % 256) lanes (zip2 (λ a b. (a + (256 - b)) % 256) tags began) i 0 0 0 (omega arith) (omega (arith, long, ft.0))
    ∙ omega (arith, rest, lane_fits tags i ft h)

pub places_ok : (v : List ℕ) → IsVector v → SwzOk w8 16 64 0 (zip2 bit_and v (replicate 64 15))
places_ok v fits =
    let small = Each1-all (λ a. bit_and a 15 < 16) (λ a. omega (arith, and_le_r a 15)) v in
    SwzOk-from_below w8 16 4 64 0 (zip2 bit_and v (replicate 64 15)) refl (omega (arith, length-zip2 bit_and v (replicate 64 15) fits.0))
    (Each1-zip2 bit_and (λ j. j < 16) v (replicate 64 15) (Each2-splat (λ a b. bit_and a b < 16) v 64 15 small))

pub within_at : (quarters places : List ℕ) (i : ℕ) → IsVector places → i < 64 →
    get_or (swz_l w8 16 quarters 0 (zip2 bit_and places (replicate 64 15))) i 0 ≡ get_or quarters (16 * (i / 16) + get_or places i 0 % 16) 0
within_at quarters places i f h =
    let is : get_or (zip2 bit_and places (replicate 64 15)) i 0 ≡ get_or places i 0 % 16 = masked_at places 15 i f.0 h ∙ and_mask (get_or places i 0) 4 in
    let place : 16 * ((0 + i) / 16) + get_or (zip2 bit_and places (replicate 64 15)) i 0 ≡ 16 * (i / 16) + get_or places i 0 % 16 = omega (arith, is) in
    get_or-swz_l_below w8 16 quarters 0 (zip2 bit_and places (replicate 64 15)) i (omega (arith, length-zip2 bit_and places (replicate 64 15) f.0, f.0)) (omega (arith, is))
    ∙ ap (λ k. get_or quarters k 0) place

pub by_bit_at : (places without with' : List ℕ) (bit i : ℕ) → length places ≡ 64 → length without ≡ 64 → length with' ≡ 64 → i < 64 →
    get_or (selected eqb (zip2 bit_and places (replicate 64 bit)) (replicate 64 0) without with') i 0 ≡ cond (eqb (bit_and (get_or places i 0) bit) 0) (get_or without i 0) (get_or with' i 0)
by_bit_at places without with' bit i ep eo ew h =
    selected_at eqb (zip2 bit_and places (replicate 64 bit)) (replicate 64 0) without with' 64 i (length-zip2 bit_and places (replicate 64 bit) ep ∙ ep) refl eo ew h
    ∙ rw (masked_at places bit i ep h, get_or-replicate {A = ℕ} 64 i 0 0 h) refl

-- ---- a table of sixty-four by quarters

abbrev pub first_quarter : List ℕ
first_quarter = 0 ∷ 1 ∷ 2 ∷ 3 ∷ 4 ∷ 5 ∷ 6 ∷ 7 ∷ 8 ∷ 9 ∷ 10 ∷ 11 ∷ 12 ∷ 13 ∷ 14 ∷ 15 ∷ 0 ∷ 1 ∷ 2 ∷ 3 ∷ 4 ∷ 5 ∷ 6 ∷ 7 ∷ 8 ∷ 9 ∷ 10 ∷ 11 ∷ 12 ∷ 13 ∷ 14 ∷ 15 ∷ 0 ∷ 1 ∷ 2 ∷ 3 ∷ 4 ∷ 5 ∷ 6 ∷ 7 ∷ 8 ∷ 9 ∷ 10 ∷ 11 ∷ 12 ∷ 13 ∷ 14 ∷ 15 ∷ 0 ∷ 1 ∷ 2 ∷ 3 ∷ 4 ∷ 5 ∷ 6 ∷ 7 ∷ 8 ∷ 9 ∷ 10 ∷ 11 ∷ 12 ∷ 13 ∷ 14 ∷ 15 ∷ []

abbrev pub second_quarter : List ℕ
second_quarter = 16 ∷ 17 ∷ 18 ∷ 19 ∷ 20 ∷ 21 ∷ 22 ∷ 23 ∷ 24 ∷ 25 ∷ 26 ∷ 27 ∷ 28 ∷ 29 ∷ 30 ∷ 31 ∷ 16 ∷ 17 ∷ 18 ∷ 19 ∷ 20 ∷ 21 ∷ 22 ∷ 23 ∷ 24 ∷ 25 ∷ 26 ∷ 27 ∷ 28 ∷ 29 ∷ 30 ∷ 31 ∷ 16 ∷ 17 ∷ 18 ∷ 19 ∷ 20 ∷ 21 ∷ 22 ∷ 23 ∷ 24 ∷ 25 ∷ 26 ∷ 27 ∷ 28 ∷ 29 ∷ 30 ∷ 31 ∷ 16 ∷ 17 ∷ 18 ∷ 19 ∷ 20 ∷ 21 ∷ 22 ∷ 23 ∷ 24 ∷ 25 ∷ 26 ∷ 27 ∷ 28 ∷ 29 ∷ 30 ∷ 31 ∷ []

abbrev pub third_quarter : List ℕ
third_quarter = 32 ∷ 33 ∷ 34 ∷ 35 ∷ 36 ∷ 37 ∷ 38 ∷ 39 ∷ 40 ∷ 41 ∷ 42 ∷ 43 ∷ 44 ∷ 45 ∷ 46 ∷ 47 ∷ 32 ∷ 33 ∷ 34 ∷ 35 ∷ 36 ∷ 37 ∷ 38 ∷ 39 ∷ 40 ∷ 41 ∷ 42 ∷ 43 ∷ 44 ∷ 45 ∷ 46 ∷ 47 ∷ 32 ∷ 33 ∷ 34 ∷ 35 ∷ 36 ∷ 37 ∷ 38 ∷ 39 ∷ 40 ∷ 41 ∷ 42 ∷ 43 ∷ 44 ∷ 45 ∷ 46 ∷ 47 ∷ 32 ∷ 33 ∷ 34 ∷ 35 ∷ 36 ∷ 37 ∷ 38 ∷ 39 ∷ 40 ∷ 41 ∷ 42 ∷ 43 ∷ 44 ∷ 45 ∷ 46 ∷ 47 ∷ []

abbrev pub fourth_quarter : List ℕ
fourth_quarter = 48 ∷ 49 ∷ 50 ∷ 51 ∷ 52 ∷ 53 ∷ 54 ∷ 55 ∷ 56 ∷ 57 ∷ 58 ∷ 59 ∷ 60 ∷ 61 ∷ 62 ∷ 63 ∷ 48 ∷ 49 ∷ 50 ∷ 51 ∷ 52 ∷ 53 ∷ 54 ∷ 55 ∷ 56 ∷ 57 ∷ 58 ∷ 59 ∷ 60 ∷ 61 ∷ 62 ∷ 63 ∷ 48 ∷ 49 ∷ 50 ∷ 51 ∷ 52 ∷ 53 ∷ 54 ∷ 55 ∷ 56 ∷ 57 ∷ 58 ∷ 59 ∷ 60 ∷ 61 ∷ 62 ∷ 63 ∷ 48 ∷ 49 ∷ 50 ∷ 51 ∷ 52 ∷ 53 ∷ 54 ∷ 55 ∷ 56 ∷ 57 ∷ 58 ∷ 59 ∷ 60 ∷ 61 ∷ 62 ∷ 63 ∷ []

-- a list of places has quarter q four times
abbrev IsQuarter : List ℕ → ℕ → Type 0
IsQuarter ks q = (j : ℕ) → j < 64 → eqb (get_or ks j 0) (16 * q + j % 16) ≡ true

pub first_is : IsQuarter first_quarter 0
first_is j h = agree_below_at (λ j. eqb (get_or first_quarter j 0) (16 * 0 + j % 16)) (λ _. true) 64 j refl h

pub second_is : IsQuarter second_quarter 1
second_is j h = agree_below_at (λ j. eqb (get_or second_quarter j 0) (16 * 1 + j % 16)) (λ _. true) 64 j refl h

pub third_is : IsQuarter third_quarter 2
third_is j h = agree_below_at (λ j. eqb (get_or third_quarter j 0) (16 * 2 + j % 16)) (λ _. true) 64 j refl h

pub fourth_is : IsQuarter fourth_quarter 3
fourth_is j h = agree_below_at (λ j. eqb (get_or fourth_quarter j 0) (16 * 3 + j % 16)) (λ _. true) 64 j refl h

pub quarter_at : (v ks : List ℕ) (q i t : ℕ) → length v ≡ 64 → length ks ≡ 64 → IsQuarter ks q → q < 4 → i < 64 →
    get_or (pick_l 0 (v ++ v) ks) (16 * (i / 16) + t % 16) 0 ≡ get_or v (16 * q + t % 16) 0
quarter_at v ks q i t long el is lt h =
    let place : 16 * q + (16 * (i / 16) + t % 16) % 16 ≡ 16 * q + t % 16 = omega arith in
    get_or-map (λ j. get_or (v ++ v) j 0) ks (16 * (i / 16) + t % 16) 0 0 (omega arith)
    ∙ ap (λ j. get_or (v ++ v) j 0) (eqb-true _ _ (is (16 * (i / 16) + t % 16) (omega arith)) ∙ place)
    ∙ get_or_append_left v v 0 (16 * q + t % 16) (omega arith)

low_bit : (t : ℕ) → t < 256 → eqb (bit_and t 16) 0 ≡ eqb (t / 16 % 2) 0
low_bit t h = agree_below_at (λ t. eqb (bit_and t 16) 0) (λ t. eqb (t / 16 % 2) 0) 256 t refl h

high_bit : (t : ℕ) → t < 256 → eqb (bit_and t 32) 0 ≡ eqb (t / 32 % 2) 0
high_bit t h = agree_below_at (λ t. eqb (bit_and t 32) 0) (λ t. eqb (t / 32 % 2) 0) 256 t refl h

by_quarters : (v : List ℕ) (t : ℕ) (s r : Bool) → eqb (t / 32 % 2) 0 ≡ s → eqb (t / 16 % 2) 0 ≡ r →
    cond s (cond r (get_or v (16 * 0 + t % 16) 0) (get_or v (16 * 1 + t % 16) 0)) (cond r (get_or v (16 * 2 + t % 16) 0) (get_or v (16 * 3 + t % 16) 0)) ≡ get_or v (t % 64) 0
by_quarters v t true true es er = let place : 16 * 0 + t % 16 ≡ t % 64 = omega (arith, eqb-true _ _ es, eqb-true _ _ er) in ap (λ k. get_or v k 0) place
by_quarters v t true false es er = let place : 16 * 1 + t % 16 ≡ t % 64 = omega (arith, eqb-true _ _ es, eqb-false _ _ er) in ap (λ k. get_or v k 0) place
by_quarters v t false true es er = let place : 16 * 2 + t % 16 ≡ t % 64 = omega (arith, eqb-false _ _ es, eqb-true _ _ er) in ap (λ k. get_or v k 0) place
by_quarters v t false false es er = let place : 16 * 3 + t % 16 ≡ t % 64 = omega (arith, eqb-false _ _ es, eqb-false _ _ er) in ap (λ k. get_or v k 0) place

-- what the code computes
pub looked_up_at : (v : List ℕ) (t a b c d low high value : ℕ) → t < 256
    → value ≡ cond (eqb (bit_and t 32) 0) low high
    → low ≡ cond (eqb (bit_and t 16) 0) a b
    → high ≡ cond (eqb (bit_and t 16) 0) c d
    → a ≡ get_or v (16 * 0 + t % 16) 0
    → b ≡ get_or v (16 * 1 + t % 16) 0
    → c ≡ get_or v (16 * 2 + t % 16) 0
    → d ≡ get_or v (16 * 3 + t % 16) 0
    → value ≡ get_or v (t % 64) 0
looked_up_at v t a b c d low high value h ev el eh ea eb ec ed =
    ev ∙ rw (el, eh, ea, eb, ec, ed, high_bit t h, low_bit t h) (by_quarters v t (eqb (t / 32 % 2) 0) (eqb (t / 16 % 2) 0) refl refl)

-- ---- equal lanes

one_true : (b : Bool) → ◌≡◌ {A = ℕ} (cond b 1 0) 1 → b ≡ true
one_true true e = refl
one_true false e = absurd (omega arith)

all_ones : (i : ℕ) → i < 64 → 18446744073709551615 / 2 ^ i % 2 ≡ 1
all_ones i h = eqb-true _ _ (agree_below_at (λ i. eqb (18446744073709551615 / 2 ^ i % 2) 1) (λ _. true) 64 i refl h)

pub equal_at : (v : List ℕ) (x i : ℕ) → length v ≡ 64 → i < 64
    → eqb (mask_l (map (top 7) (zip2 (λ a b. cond (eqb a b) (2 ^ 8 - 1) 0) v (replicate 64 x))) % 2 ^ 64) 18446744073709551615 ≡ true
    → get_or v i 0 ≡ x
equal_at v x i long h e =
    let whole : mask_l (map (λ y. eqb y x) v) ≡ 18446744073709551615 = sym (bitmask_splat w8 eqb v 64 x long (omega arith)) ∙ eqb-true _ _ e in
    let one : ◌≡◌ {A = ℕ} (cond (get_or (map (λ y. eqb y x) v) i false) 1 0) 1 = sym (bit_mask_l (map (λ y. eqb y x) v) i) ∙ ap (λ n. n / 2 ^ i % 2) whole ∙ all_ones i h in
    eqb-true _ _ (sym (get_or-map (λ y. eqb y x) v i 0 false (omega arith)) ∙ one_true _ one)

lane_of : (v : List ℕ) (x : ℕ) → ((i : ℕ) → i < 64 → get_or v i 0 ≡ x) → length v ≡ 64 → v ≡ replicate 64 x
lane_of v x h long =
    let long' : length (replicate 64 x) ≡ 64 = length-replicate 64 x in
    same_number_lists v (replicate 64 x) (long ∙ sym long')
    (λ k less. let lt : k < 64 = omega (arith, less, long) in h k lt ∙ sym (get_or-replicate 64 k x 0 lt))

splat_mask : (x : ℕ) (b : Bool) → eqb x x ≡ b → b ≡ true → mask_l (map (λ y. eqb y x) (replicate 64 x)) ≡ 18446744073709551615
splat_mask x b e t = rw (e ∙ t) refl

pub all_equal : (v : List ℕ) (x : ℕ) → length v ≡ 64 → ((i : ℕ) → i < 64 → get_or v i 0 ≡ x)
    → eqb (mask_l (map (top 7) (zip2 (λ a b. cond (eqb a b) (2 ^ 8 - 1) 0) v (replicate 64 x))) % 2 ^ 64) 18446744073709551615 ≡ true
all_equal v x long h =
    eq-eqb _ _ (bitmask_splat w8 eqb v 64 x long (omega arith) ∙ ap (λ xs. mask_l (map (λ y. eqb y x) xs)) (lane_of v x h long) ∙ splat_mask x (eqb x x) refl (eq-eqb x x refl))

-- ---- numbers in natural order

natural_row : (i : ℕ) → i < 64 → get_or NATURAL i 0 ≡ natural_of i
natural_row i h = eqb-true _ _ (agree_below_at (λ i. eqb (get_or NATURAL i 0) (natural_of i)) (λ _. true) 64 i refl h)

pub numbers_at : (v : List ℕ) (value i : ℕ) → length v ≡ 64 → i < 64 →
    get_or (selected eqb v (replicate 64 value) NATURAL (replicate 64 255)) i 0 ≡ cond (eqb (get_or v i 0) value) (natural_of i) 255
numbers_at v value i long h =
    selected_at eqb v (replicate 64 value) NATURAL (replicate 64 255) 64 i long (length-replicate 64 value) refl refl h
    ∙ rw (get_or-replicate {A = ℕ} 64 i value 0 h, natural_row i h, get_or-replicate {A = ℕ} 64 i 255 0 h) refl

pub natural_low : (k : ℕ) → get_or NATURAL (k % 64) 0 < 64
natural_low k = omega (arith, natural_row (k % 64) (omega arith))

natural_back : (i : ℕ) → i < 64 → eqb (get_or NATURAL (natural_of i % 64) 0) i ≡ true
natural_back i h = agree_below_at (λ i. eqb (get_or NATURAL (natural_of i % 64) 0) i) (λ _. true) 64 i refl h

pub natural_lane : (k i : ℕ) → i < 64 → natural_of i ≡ k → get_or NATURAL (k % 64) 0 ≡ i
natural_lane k i h e = ap (λ n. get_or NATURAL (n % 64) 0) (sym e) ∙ eqb-true _ _ (natural_back i h)

-- ---- the first least lane

one_number : (value least n number : ℕ) (b : Bool) → eqb value least ≡ b → cond b n 255 ≡ number → number < 64 → (value ≡ least) × (n ≡ number)
one_number value least n number true t e h = (eqb-true _ _ t, e)
one_number value least n number false t e h = absurd (omega arith)

module _ (v numbers : List ℕ) (least number lane : ℕ) (ev : length v ≡ 64) (en : length numbers ≡ 64)
    (low : All (λ x. least ≤ x) v) (has : Contains v least)
    (is : (i : ℕ) → i < 64 → get_or numbers i 0 ≡ cond (eqb (get_or v i 0) least) (natural_of i) 255)
    (first : All (λ x. number ≤ x) numbers) (some : Contains numbers number)
    (back : (i : ℕ) → i < 64 → natural_of i ≡ number → lane ≡ i) where
  number_of : (i : ℕ) → i < 64 → get_or v i 0 ≡ least → get_or numbers i 0 ≡ natural_of i
  number_of i h e = is i h ∙ ap (λ b. cond b (natural_of i) 255) (eq-eqb _ _ e)

  number_le : (i : ℕ) → i < 64 → get_or v i 0 ≡ least → number ≤ natural_of i
  number_le i h e = omega (arith, first i 0 (omega arith), number_of i h e)

  number_low : number < 64
  number_low =
      let h : has.0 < 64 = omega (arith, has.1) in
      omega (arith, number_le has.0 h (sym (get_or_default v has.0 least 0 has.1) ∙ has.2))

  at : (get_or v some.0 0 ≡ least) × (natural_of some.0 ≡ number)
  at =
      let h : some.0 < 64 = omega (arith, some.1) in
      one_number (get_or v some.0 0) least (natural_of some.0) number (eqb (get_or v some.0 0) least) refl
      (sym (is some.0 h) ∙ get_or_default numbers some.0 0 number some.1 ∙ some.2) number_low

  lane_is : lane ≡ some.0
  lane_is = let h : some.0 < 64 = omega (arith, some.1) in back some.0 h at.1

  pub least_lane_at : (i : ℕ) → i < 64 → get_or v lane 0 ≤ get_or v i 0
  least_lane_at i h = omega (arith, ap (λ k. get_or v k 0) lane_is, at.0, low i 0 (omega arith))

  pub first_lane_at : (i : ℕ) → i < 64 → get_or v i 0 ≡ get_or v lane 0 → natural_of lane ≤ natural_of i
  first_lane_at i h e = omega (arith, ap natural_of lane_is, at.1, number_le i h (e ∙ ap (λ k. get_or v k 0) lane_is ∙ at.0))
