-- Lists that are put together of pieces: a piece cut out, and the numbers of a range that pass a test.
use Rattle.std.proofs.Common.{◌≡◌, ℕ, zero, suc, ◌+◌, ◌*◌, ◌≤◌, ◌<◌, Bool, true, false, cond, List, [], ◌∷◌, ◌++◌, length, take, drop, flat_map, map, refl, arith, ap, sym, ◌∙◌, length-append, inl, inr}
use Rattle.std.specs.Prelude.{sum_by, filter}
use Rattle.std.specs.List.{range_with_len}
use Rattle.std.proofs.lemmas.Bool.{cases_lt}
use Rattle.std.proofs.lemmas.List.{take_all, take-append-le}
use Rattle.std.proofs.lemmas.List.Sums.{sum_by-cons}

drop-add : {X : Type 0} (xs ys : List X) (n : ℕ) → drop (length xs + n) (xs ++ ys) ≡ drop n ys
drop-add [] ys n = ap (λ k. drop k ys) (let e : 0 + n ≡ n = omega arith in e)
drop-add (x ∷ xs) ys n = ap (λ k. drop k (x ∷ (xs ++ ys))) (let e : suc (length xs) + n ≡ suc (length xs + n) = omega arith in e) ∙ drop-add xs ys n

-- a front of known length, and what follows it
pub take-front : {X : Type 0} (xs ys : List X) (n : ℕ) → length xs ≡ n → take n (xs ++ ys) ≡ xs
take-front xs ys n e = take-append-le n xs ys (omega (arith, e)) ∙ take_all n xs (omega (arith, e))

pub drop-front : {X : Type 0} (xs ys : List X) (n : ℕ) → length xs ≡ n → drop n (xs ++ ys) ≡ ys
drop-front xs ys n e = ap (λ k. drop k (xs ++ ys)) (let e' : n ≡ length xs + 0 = omega (arith, e) in e') ∙ drop-add xs ys 0

-- a piece, cut out by the length of those before
cut : {X : Type 0} (f : ℕ → List X) (a n i : ℕ) → i < n → take (length (f (a + i))) (drop (length (flat_map f (range_with_len a i))) (flat_map f (range_with_len a n))) ≡ f (a + i)
cut f a zero i lt = absurd (omega arith)
cut f a (suc n) zero lt =
    ap (λ k. take (length (f k)) (f a ++ flat_map f (range_with_len (a + 1) n))) (let e : a + 0 ≡ a = omega arith in e)
    ∙ take-front (f a) (flat_map f (range_with_len (a + 1) n)) (length (f a)) refl
    ∙ ap f (let e : a ≡ a + 0 = omega arith in e)
cut f a (suc n) (suc i) lt =
    let others = flat_map f (range_with_len (a + 1) n) in
    let before = flat_map f (range_with_len (a + 1) i) in
    ap (λ k. take (length (f (a + suc i))) (drop k (f a ++ others))) (length-append (f a) before)
    ∙ ap (take (length (f (a + suc i)))) (drop-add (f a) others (length before))
    ∙ ap (λ k. take (length (f k)) (drop (length before) others)) (let e : a + suc i ≡ a + 1 + i = omega arith in e)
    ∙ cut f (a + 1) n i (omega arith)
    ∙ ap f (let e : a + 1 + i ≡ a + suc i = omega arith in e)

-- the same where the lengths are told
pub cut_at : {X : Type 0} (f : ℕ → List X) (n i before size : ℕ) → i < n → length (flat_map f (range_with_len 0 i)) ≡ before → length (f i) ≡ size → take size (drop before (flat_map f (range_with_len 0 n))) ≡ f i
cut_at f n i before size lt e g =
    let all = flat_map f (range_with_len 0 n) in
    ap (λ k. take k (drop before all)) (sym g)
    ∙ ap (λ k. take (length (f i)) (drop k all)) (sym e)
    ∙ ap (λ k. take (length (f k)) (drop (length (flat_map f (range_with_len 0 i))) all)) (let e' : i ≡ 0 + i = omega arith in e')
    ∙ cut f 0 n i lt ∙ ap f (let e' : 0 + i ≡ i = omega arith in e')

-- pieces of lengths that are so many units
pub length-sized : {X : Type 0} (f : ℕ → List X) (size : ℕ → ℕ) (unit a n : ℕ) → ((k : ℕ) → a ≤ k → k < a + n → length (f k) ≡ unit * size k) → length (flat_map f (range_with_len a n)) ≡ unit * sum_by size (range_with_len a n)
length-sized f size unit a zero h = (let none : sum_by size (range_with_len a 0) ≡ 0 = refl in more 0 unit (sum_by size (range_with_len a 0)) refl none)
  where
    more : (x unit s : ℕ) → x ≡ 0 → s ≡ 0 → x ≡ unit * s
    more x unit s e g = rw g (omega (arith, e))
length-sized f size unit a (suc n) h =
    length-append (f a) (flat_map f (range_with_len (a + 1) n))
    ∙ ap (λ k. k + length (flat_map f (range_with_len (a + 1) n))) (h a (omega arith) (omega arith))
    ∙ ap (λ k. unit * size a + k) (length-sized f size unit (a + 1) n (λ k l m. h k (omega arith) (omega arith)))
    ∙ more (size a) (sum_by size (range_with_len (a + 1) n)) unit
    ∙ ap (λ k. unit * k) (sym (sum_by-cons size a (range_with_len (a + 1) n)))
  where
    more : (x y unit : ℕ) → unit * x + unit * y ≡ unit * (x + y)
    more x y unit = omega arith

-- ---- numbers that pass a test

-- numbers of a function, from base on so many, are just those of the range that pass
pub record AreKept (test : ℕ → Bool) (at : ℕ → ℕ) (a n base t : ℕ) : Type 0 where
  pub low : (k : ℕ) → base ≤ k → k < base + t → a ≤ at k
  pub high : (k : ℕ) → base ≤ k → k < base + t → at k < a + n
  pub rising : (i j : ℕ) → base ≤ i → i < j → j < base + t → at i < at j
  pub passes : (k : ℕ) → base ≤ k → k < base + t → test (at k) ≡ true
  pub all : (s : ℕ) → a ≤ s → s < a + n → test s ≡ true → (k : ℕ) × (base ≤ k) × (k < base + t) × (at k ≡ s)

none-fits : (test : ℕ → Bool) (at : ℕ → ℕ) (a base t : ℕ) → AreKept test at a 0 base t → t ≡ 0
none-fits test at a base zero h = refl
none-fits test at a base (suc t) h = absurd (let l = h.low base (omega arith) (omega arith) in let u = h.high base (omega arith) (omega arith) in omega (arith, l, u))

-- where the first number fails
kept-fails : (test : ℕ → Bool) (at : ℕ → ℕ) (a n base t : ℕ) → AreKept test at a (suc n) base t → test a ≡ false → AreKept test at (a + 1) n base t
kept-fails test at a n base t h fails = record {
  low = λ k l m. elim (cases_lt a (at k)) [
    | inl less ↦ omega (arith, less)
    | inr not_less ↦ absurd (let low = h.low k l m in let e : at k ≡ a = omega (arith, low, not_less) in let pass = h.passes k l m in let same = ap test e in cc)
  ];
  high = λ k l m. (let u = h.high k l m in omega (arith, u));
  rising = h.rising;
  passes = h.passes;
  all = λ s l m pass. h.all s (omega (arith, l)) (omega (arith, m)) pass;
}

-- where it passes it is the first of the numbers
kept-first : (test : ℕ → Bool) (at : ℕ → ℕ) (a n base t : ℕ) → AreKept test at a (suc n) base t → test a ≡ true → (at base ≡ a) × (0 < t)
kept-first test at a n base t h pass =
    let k = h.all a (omega arith) (omega arith) pass in
    elim (cases_lt base k.0) [
      | inl later ↦ absurd (let low = h.low base (omega arith) (omega (arith, later, k.2)) in let up = h.rising base k.0 (omega arith) later k.2 in omega (arith, low, up, k.3))
      | inr now ↦ (let e : k.0 ≡ base = omega (arith, now, k.1) in (ap at (sym e) ∙ k.3, omega (arith, k.1, k.2)))
    ]

kept-passes : (test : ℕ → Bool) (at : ℕ → ℕ) (a n base t : ℕ) → AreKept test at a (suc n) base (suc t) → at base ≡ a → AreKept test at (a + 1) n (base + 1) t
kept-passes test at a n base t h first = record {
  low = λ k l m. (let up = h.rising base k (omega arith) (omega (arith, l)) (omega (arith, m)) in omega (arith, up, first));
  high = λ k l m. (let u = h.high k (omega (arith, l)) (omega (arith, m)) in omega (arith, u));
  rising = λ i j l m u. h.rising i j (omega (arith, l)) m (omega (arith, u));
  passes = λ k l m. h.passes k (omega (arith, l)) (omega (arith, m));
  all = λ s l m pass. (let k = h.all s (omega (arith, l)) (omega (arith, m)) pass in
      elim (cases_lt base k.0) [
        | inl later ↦ (k.0, omega (arith, later), omega (arith, k.2), k.3)
        | inr now ↦ absurd (let e : k.0 ≡ base = omega (arith, now, k.1) in let same = ap at e in omega (arith, same, k.3, first, l))
      ]);
}

pub kept-map : (test : ℕ → Bool) (at : ℕ → ℕ) (a n base t : ℕ) → AreKept test at a n base t → filter test (range_with_len a n) ≡ map at (range_with_len base t)
kept-map test at a zero base t h = ap (λ k. map at (range_with_len base k)) (sym (none-fits test at a base t h))
kept-map test at a (suc n) base t h = go (test a) refl t h (kept-map test at (a + 1) n)
  where
    go : (b : Bool) → test a ≡ b → (t : ℕ) → AreKept test at a (suc n) base t → ((base t : ℕ) → AreKept test at (a + 1) n base t → filter test (range_with_len (a + 1) n) ≡ map at (range_with_len base t)) → filter test (range_with_len a (suc n)) ≡ map at (range_with_len base t)
    go false fails t h more = rw fails (more base t (kept-fails test at a n base t h fails))
    go true pass zero h more = absurd (let first = kept-first test at a n base zero h pass in omega (arith, first.1))
    go true pass (suc t) h more =
        let first = kept-first test at a n base (suc t) h pass in
        rw pass (ap (λ xs. a ∷ xs) (more (base + 1) t (kept-passes test at a n base t h first.0)) ∙ ap (λ k. k ∷ map at (range_with_len (base + 1) t)) (sym first.0))

pub filter-same : (p q : ℕ → Bool) (a n : ℕ) → ((k : ℕ) → a ≤ k → k < a + n → p k ≡ q k) → filter p (range_with_len a n) ≡ filter q (range_with_len a n)
filter-same p q a zero h = refl
filter-same p q a (suc n) h =
    ap (λ b. cond b (a ∷ filter p (range_with_len (a + 1) n)) (filter p (range_with_len (a + 1) n))) (h a (omega arith) (omega arith))
    ∙ ap (λ xs. cond (q a) (a ∷ xs) xs) (filter-same p q (a + 1) n (λ k l m. h k (omega arith) (omega arith)))
