-- The majority of the checks of a place tells whether it is wrong.
use Rattle.std.proofs.Common.{◌≡◌, ℕ, zero, suc, ◌+◌, ◌-◌, ◌%◌, ◌≤◌, ◌<◌, Bool, true, false, refl, arith, ap, ◌∙◌, List, [], ◌∷◌, ◌++◌, length, get_or}
use Rattle.std.specs.Prelude.{sum_by, ◌==◌, ◌&&◌, nat_lt, nat_le, not}
use Rattle.std.specs.Int.{from_bool}
use Rattle.std.proofs.lemmas.Bool.{agree_below, agree_below_at, and_parts, eqb-true, ltb-true, leb-true}
use Rattle.std.proofs.lemmas.List.Sums.{sum_by-cons, sum_by-append}
use Rattle.isdbt_base.specs.Bits.{◌⊕◌}
use Rattle.tmcc_fix.specs.declared.checks.TheConstants.{RESIDUES}
use Rattle.tmcc_fix.specs.Checks.{bit, place_of, parity_at, odd_at}
use Rattle.tmcc_fix.specs.NearCodewords.{differing, IsNear}
use Rattle.tmcc_fix.proofs.Sums.{sums-parity, count, nonzero, all_below, split-zero, range_total, range-front, range-same, range-zero, range-turn, sums-le}
use Rattle.tmcc_fix.proofs.Parities.{codeword-even}

-- ---- the differences of the residues

-- the differences of a number and each of a list, modulo 273
unfoldable row : ℕ → List ℕ → List ℕ
row a [] = []
row a (b ∷ bs) = (a + 273 - b) % 273 ∷ row a bs

-- the differences but zero of each of a list and each residue
unfoldable differences : List ℕ → List ℕ
differences [] = []
differences (a ∷ rs) = nonzero (row a RESIDUES) ++ differences rs

-- each of a list is one of the residues, once
unfoldable once_each : List ℕ → Bool
once_each [] = true
once_each (a ∷ rs) = (count 0 (row a RESIDUES) == 1) && once_each rs

residues_below : all_below 273 RESIDUES ≡ true
unfolding all_below
residues_below = refl

residues_once : once_each RESIDUES ≡ true
unfolding once_each row count
residues_once = refl

differences_below : all_below 273 (0 ∷ differences RESIDUES) ≡ true
unfolding differences row nonzero all_below
differences_below = refl

-- no difference comes twice
distinct_test : agree_below (λ q. nat_le (count q (0 ∷ differences RESIDUES)) 1) (λ _. true) 273 ≡ true
unfolding differences row nonzero count
distinct_test = refl

distinct : (q : ℕ) → q < 273 → count q (0 ∷ differences RESIDUES) ≤ 1
distinct q h = leb-true _ _ (agree_below_at (λ q. nat_le (count q (0 ∷ differences RESIDUES)) 1) (λ _. true) 273 q distinct_test h)

-- ---- errors

-- whether two lists of bits differ at a place
abbrev pub error : List Bool → List Bool → ℕ → ℕ
error xs ys i = (bit xs i + bit ys i) % 2

error-bit : (x y : Bool) → (from_bool x + from_bool y) % 2 ≡ from_bool (x ⊕ y)
error-bit true true = refl
error-bit true false = refl
error-bit false true = refl
error-bit false false = refl

differing-range : (xs ys : List Bool) (n : ℕ) → length ys ≡ length xs → length xs ≤ n → range_total (error xs ys) n ≡ differing xs ys
unfolding differing range_total
differing-range [] [] n e h = range-zero (error [] []) n (λ i k. refl)
differing-range [] (y ∷ ys) n e h = absurd (omega arith)
differing-range (x ∷ xs) [] n e h = absurd (omega arith)
differing-range (x ∷ xs) (y ∷ ys) zero e h = absurd (omega arith)
differing-range (x ∷ xs) (y ∷ ys) (suc n) e h =
    let front = range-front (error (x ∷ xs) (y ∷ ys)) n in
    let rest = differing-range xs ys n (omega arith) (omega arith) in
    let first = error-bit x y in
    front ∙ ap (λ m. m + range_total (error xs ys) n) first ∙ ap (λ m. from_bool (x ⊕ y) + m) rest

-- seen from any place on, the errors are as many
around : (e : ℕ → ℕ) (p : ℕ) → range_total (λ d. e ((p + d) % 273)) 273 ≡ range_total (λ d. e (d % 273)) 273
around e zero = range-same (λ d. e ((0 + d) % 273)) (λ d. e (d % 273)) 273 (λ i h. let s : (0 + i) % 273 ≡ i % 273 = omega arith in ap e s)
around e (suc p) =
    let f = λ (d : ℕ). e ((p + d) % 273) in
    let turn : range_total (λ d. f (suc d)) 273 ≡ range_total f 273 = range-turn f 273 (let s : (p + 273) % 273 ≡ (p + 0) % 273 = omega arith in ap e s) in
    range-same (λ d. e ((suc p + d) % 273)) (λ d. f (suc d)) 273 (λ i h. let s : (suc p + i) % 273 ≡ (p + suc i) % 273 = omega arith in ap e s)
    ∙ turn ∙ around e p

-- the errors at a place, and at the places that its checks cover besides
few : (bits near : List Bool) (p : ℕ) → length bits ≡ 184 → IsNear bits near → error bits near (p % 273) + sum_by (λ d. error bits near ((p + d) % 273)) (differences RESIDUES) ≤ 8
few bits near p size is =
    let e = error bits near in
    let f = λ (d : ℕ). e ((p + d) % 273) in
    let most = sums-le f (0 ∷ differences RESIDUES) 273 differences_below distinct in
    let turned = around e p in
    let same = range-same (λ d. e (d % 273)) e 273 (λ i h. let s : i % 273 ≡ i = omega arith in ap e s) in
    let all = differing-range bits near 273 is.size (omega (arith, size)) in
    let close = is.close in
    let first : f 0 ≡ e (p % 273) = (let s : (p + 0) % 273 ≡ p % 273 = omega arith in ap e s) in
    let more = sum_by-cons f 0 (differences RESIDUES) in
    omega (arith, most, turned, same, all, close, first, more)

-- ---- the checks of a place

-- the place that a check of p has at a residue
place-row : (p a b : ℕ) → b < 273 → place_of ((p + a) % 273) b ≡ (p + (a + 273 - b) % 273) % 273
place-row p a b h = omega arith

row-sum : (e : ℕ → ℕ) (p a : ℕ) (bs : List ℕ) → all_below 273 bs ≡ true → sum_by (λ b. e (place_of ((p + a) % 273) b)) bs ≡ sum_by (λ d. e ((p + d) % 273)) (row a bs)
unfolding row all_below
row-sum e p a [] t = refl
row-sum e p a (b ∷ bs) t =
    let parts = and_parts (nat_lt b 273) (all_below 273 bs) t in
    let here = ap e (place-row p a b (ltb-true b 273 parts.0)) in
    let rest = row-sum e p a bs parts.1 in
    let from = sum_by-cons (λ b. e (place_of ((p + a) % 273) b)) b bs in
    let to = sum_by-cons (λ d. e ((p + d) % 273)) ((a + 273 - b) % 273) (row a bs) in
    omega (arith, here, rest, from, to)

-- the parity of a check of a word near a codeword is that of its errors
parity-errors : (bits near : List Bool) (s : ℕ) → length bits ≡ 184 → IsNear bits near → s < 273 → parity_at bits s ≡ sum_by (λ b. error bits near (place_of s b)) RESIDUES % 2
parity-errors bits near s size is h =
    let even = codeword-even near s (is.size ∙ size) is.codeword h in
    let sum = sums-parity (λ r. bit bits (place_of s r)) (λ r. bit near (place_of s r)) RESIDUES in
    omega (arith, even, sum)

-- the parity of a check of p: the error at p, and those at its other places
parity-place : (bits near : List Bool) (p a : ℕ) → length bits ≡ 184 → IsNear bits near → count 0 (row a RESIDUES) ≡ 1 →
    parity_at bits ((p + a) % 273) ≡ (error bits near (p % 273) + sum_by (λ d. error bits near ((p + d) % 273)) (nonzero (row a RESIDUES))) % 2
parity-place bits near p a size is once =
    let e = error bits near in
    let f = λ (d : ℕ). e ((p + d) % 273) in
    let low : (p + a) % 273 < 273 = omega arith in
    let parity = parity-errors bits near ((p + a) % 273) size is low in
    let line = row-sum e p a RESIDUES residues_below in
    let split = split-zero f (row a RESIDUES) in
    let first : f 0 ≡ e (p % 273) = (let s : (p + 0) % 273 ≡ p % 273 = omega arith in ap e s) in
    let whole : sum_by (λ b. e (place_of ((p + a) % 273) b)) RESIDUES ≡ e (p % 273) + sum_by f (nonzero (row a RESIDUES)) = line ∙ split ∙ rw once (omega (arith, first)) in
    parity ∙ ap (λ n. n % 2) whole

-- the checks of some residues, by the parities of all checks
abbrev odd_among : List ℕ → ℕ → List ℕ → ℕ
odd_among parities p rs = sum_by (λ a. get_or parities ((p + a) % 273) 0) rs

right_checks : (bits near : List Bool) (parities : List ℕ) (p : ℕ) (rs : List ℕ) → length bits ≡ 184 → IsNear bits near →
    ((s : ℕ) → s < 273 → get_or parities s 0 ≡ parity_at bits s) → once_each rs ≡ true → error bits near (p % 273) ≡ 0 →
    odd_among parities p rs ≤ sum_by (λ d. error bits near ((p + d) % 273)) (differences rs)
unfolding differences once_each
right_checks bits near parities p [] size is tells t right = omega arith
right_checks bits near parities p (a ∷ rs) size is tells t right =
    let parts = and_parts (count 0 (row a RESIDUES) == 1) (once_each rs) t in
    let f = λ (d : ℕ). error bits near ((p + d) % 273) in
    let here = tells ((p + a) % 273) (omega arith) in
    let parity = parity-place bits near p a size is (eqb-true _ _ parts.0) in
    let rest = right_checks bits near parities p rs size is tells parts.1 right in
    let sum = sum_by-append f (nonzero (row a RESIDUES)) (differences rs) in
    let more = sum_by-cons (λ b. get_or parities ((p + b) % 273) 0) a rs in
    omega (arith, here, parity, rest, sum, more, right)

wrong_checks : (bits near : List Bool) (parities : List ℕ) (p : ℕ) (rs : List ℕ) → length bits ≡ 184 → IsNear bits near →
    ((s : ℕ) → s < 273 → get_or parities s 0 ≡ parity_at bits s) → once_each rs ≡ true → error bits near (p % 273) ≡ 1 →
    length rs ≤ odd_among parities p rs + sum_by (λ d. error bits near ((p + d) % 273)) (differences rs)
unfolding differences once_each
wrong_checks bits near parities p [] size is tells t wrong = omega arith
wrong_checks bits near parities p (a ∷ rs) size is tells t wrong =
    let parts = and_parts (count 0 (row a RESIDUES) == 1) (once_each rs) t in
    let f = λ (d : ℕ). error bits near ((p + d) % 273) in
    let here = tells ((p + a) % 273) (omega arith) in
    let parity = parity-place bits near p a size is (eqb-true _ _ parts.0) in
    let rest = wrong_checks bits near parities p rs size is tells parts.1 wrong in
    let sum = sum_by-append f (nonzero (row a RESIDUES)) (differences rs) in
    let more = sum_by-cons (λ b. get_or parities ((p + b) % 273) 0) a rs in
    omega (arith, here, parity, rest, sum, more, wrong)

-- a right bit has at most eight odd checks
pub right-few : (bits near : List Bool) (parities : List ℕ) (p : ℕ) → length bits ≡ 184 → IsNear bits near →
    ((s : ℕ) → s < 273 → get_or parities s 0 ≡ parity_at bits s) → p < 273 → error bits near p ≡ 0 → odd_at parities p ≤ 8
right-few bits near parities p size is tells h right =
    let same : p % 273 ≡ p = omega arith in
    let here : error bits near (p % 273) ≡ 0 = ap (error bits near) same ∙ right in
    let checks = right_checks bits near parities p RESIDUES size is tells residues_once here in
    let most = few bits near p size is in
    omega (arith, checks, most, here)

-- a wrong bit has at least ten odd checks
pub wrong-many : (bits near : List Bool) (parities : List ℕ) (p : ℕ) → length bits ≡ 184 → IsNear bits near →
    ((s : ℕ) → s < 273 → get_or parities s 0 ≡ parity_at bits s) → p < 273 → error bits near p ≡ 1 → 10 ≤ odd_at parities p
wrong-many bits near parities p size is tells h wrong =
    let same : p % 273 ≡ p = omega arith in
    let here : error bits near (p % 273) ≡ 1 = ap (error bits near) same ∙ wrong in
    let checks : 17 ≤ odd_among parities p RESIDUES + sum_by (λ d. error bits near ((p + d) % 273)) (differences RESIDUES) = wrong_checks bits near parities p RESIDUES size is tells residues_once here in
    let most = few bits near p size is in
    omega (arith, checks, most, here)

pub other-bit : (x y : Bool) → ((from_bool x + from_bool y) % 2 ≡ 0 → ⊥) → not x ≡ y
other-bit true true h = absurd (h refl)
other-bit true false h = refl
other-bit false true h = refl
other-bit false false h = absurd (h refl)

pub same-bit : (x y : Bool) → ((from_bool x + from_bool y) % 2 ≡ 1 → ⊥) → x ≡ y
same-bit true true h = refl
same-bit true false h = absurd (h refl)
same-bit false true h = absurd (h refl)
same-bit false false h = refl
