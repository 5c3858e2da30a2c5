-- The first number of a range that passes a test.
use Rattle.std.proofs.Common.{◌≡◌, ℕ, zero, suc, ◌+◌, ◌<◌, Bool, true, false, cond, List, [], ◌∷◌, length, refl, ap, sym, ◌∙◌, arith, inl, inr}
use Rattle.std.proofs.lemmas.Bool.{cases_lt}
use Rattle.std.specs.Prelude.{find, filter, Some, None}
use Rattle.std.specs.declared.option.Option.{Option}
use Rattle.std.specs.List.{range_with_len}
use Rattle.std.specs.Int.{from_bool}

pub find-none : (test : ℕ → Bool) (a n : ℕ) → ((k : ℕ) → k < n → test (a + k) ≡ false) → find test (range_with_len a n) ≡ None
find-none test a zero h = refl
find-none test a (suc n) h =
    let here : test a ≡ false = ap test (let e : a ≡ a + 0 = omega arith in e) ∙ h 0 (omega arith) in
    rw here (find-none test (a + 1) n (λ k lt. ap test (let e : a + 1 + k ≡ a + suc k = omega arith in e) ∙ h (suc k) (omega arith)))

pub find-first : (test : ℕ → Bool) (a n i : ℕ) → i < n → test (a + i) ≡ true → ((k : ℕ) → k < i → test (a + k) ≡ false) → find test (range_with_len a n) ≡ Some (a + i)
find-first test a zero i lt here before = absurd (omega arith)
find-first test a (suc n) zero lt here before =
    let e : a + 0 ≡ a = omega arith in
    let found : test a ≡ true = ap test (let e' : a ≡ a + 0 = omega arith in e') ∙ here in
    rw found (ap Some (let e' : a ≡ a + 0 = omega arith in e'))
find-first test a (suc n) (suc i) lt here before =
    let first : test a ≡ false = ap test (let e : a ≡ a + 0 = omega arith in e) ∙ before 0 (omega arith) in
    rw first (find-first test (a + 1) n i (omega arith)
    (ap test (let e : a + 1 + i ≡ a + suc i = omega arith in e) ∙ here)
    (λ k less. ap test (let e : a + 1 + k ≡ a + suc k = omega arith in e) ∙ before (suc k) (omega arith))
    ∙ ap Some (let e : a + 1 + i ≡ a + suc i = omega arith in e))

-- from 0 on
pub find-none_of : (test : ℕ → Bool) (n : ℕ) → ((k : ℕ) → k < n → test k ≡ false) → find test (range_with_len 0 n) ≡ None
find-none_of test n h = find-none test 0 n (λ k less. ap test (let e : 0 + k ≡ k = omega arith in e) ∙ h k less)

pub find-first_of : (test : ℕ → Bool) (n i : ℕ) → i < n → test i ≡ true → ((k : ℕ) → k < i → test k ≡ false) → find test (range_with_len 0 n) ≡ Some i
find-first_of test n i lt here before =
    let e : 0 + i ≡ i = omega arith in
    find-first test 0 n i lt (ap test e ∙ here) (λ k less. ap test (let e' : 0 + k ≡ k = omega arith in e') ∙ before k less) ∙ ap Some e

-- what holds of each number below another and of it holds of each number up to it
pub up_to : (test : ℕ → Bool) (n k : ℕ) → ((k : ℕ) → k < n → test k ≡ false) → test n ≡ false → k < n + 1 → test k ≡ false
up_to test n k before last less = elim (cases_lt k n) [ inl below ↦ before k below | inr above ↦ (let e : k ≡ n = omega arith in ap test e ∙ last) ]

-- ---- how many numbers of a range pass a test

counted_one : (b : Bool) (x : ℕ) (ys : List ℕ) → length (cond b (x ∷ ys) ys) ≡ from_bool b + length ys
counted_one true x ys = omega arith
counted_one false x ys = omega arith

-- one more number
pub counted-more : (test : ℕ → Bool) (a n : ℕ) → length (filter test (range_with_len a (n + 1))) ≡ length (filter test (range_with_len a n)) + from_bool (test (a + n))
counted-more test a zero =
    let e : a + 0 ≡ a = omega arith in
    counted_one (test a) a [] ∙ ap (λ b. from_bool (test b) + 0) (sym e) ∙ omega arith
counted-more test a (suc n) =
    let e : a + 1 + n ≡ a + suc n = omega arith in
    let more = counted-more test (a + 1) n in
    let last : from_bool (test (a + 1 + n)) ≡ from_bool (test (a + suc n)) = ap (λ k. from_bool (test k)) e in
    let front = counted_one (test a) a (filter test (range_with_len (a + 1) (n + 1))) in
    let less = counted_one (test a) a (filter test (range_with_len (a + 1) n)) in
    let size : suc n + 1 ≡ suc (n + 1) = omega arith in
    rw (size, front, less) (omega (arith, more, last))

-- what was found passes the test
found_in : (test : ℕ → Bool) (a i : ℕ) (rest : Option ℕ) (b : Bool) → test a ≡ b → cond b (Some a) rest ≡ Some i → (rest ≡ Some i → test i ≡ true) → test i ≡ true
found_in test a i rest true passes e later = (let same : a ≡ i = cc in ap test (sym same) ∙ passes)
found_in test a i rest false fails e later = later e

pub find-passes : (test : ℕ → Bool) (a n i : ℕ) → find test (range_with_len a n) ≡ Some i → test i ≡ true
find-passes test a zero i found = absurd (cc)
find-passes test a (suc n) i found = found_in test a i (find test (range_with_len (a + 1) n)) (test a) refl found (find-passes test (a + 1) n i)
