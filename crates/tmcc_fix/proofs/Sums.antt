-- Sums over lists and over ranges.
use Rattle.std.proofs.Common.{◌≡◌, ℕ, zero, suc, ◌+◌, ◌*◌, ◌%◌, ◌<◌, ◌≤◌, refl, ap, Bool, true, arith, inl, inr, sym, List, [], ◌∷◌}
use Rattle.std.specs.Prelude.{sum_by, ◌==◌, ◌&&◌, nat_lt, if◌then◌else◌}
use Rattle.std.proofs.Math.Nat.{mul-le-mul_right}
use Rattle.std.proofs.lemmas.Bool.{and_parts, ltb-true}
use Rattle.std.proofs.lemmas.List.Sums.{sum_by-cons}
use Rattle.std.proofs.lemmas.Bool.Decides.{eqb_tells}

-- ---- sums over lists

pub sums-same : (f g : ℕ → ℕ) (xs : List ℕ) → ((x : ℕ) → f x ≡ g x) → sum_by f xs ≡ sum_by g xs
sums-same f g [] e = refl
sums-same f g (x ∷ xs) e = rw (sum_by-cons f x xs, sum_by-cons g x xs) (let here = e x in let rest = sums-same f g xs e in omega (arith, here, rest))

pub sums-zero : (f : ℕ → ℕ) (xs : List ℕ) → ((x : ℕ) → f x ≡ 0) → sum_by f xs ≡ 0
sums-zero f [] e = refl
sums-zero f (x ∷ xs) e = rw (sum_by-cons f x xs) (let here = e x in let rest = sums-zero f xs e in omega (arith, here, rest))

-- a sum of sums modulo 2
pub sums-parity : (f g : ℕ → ℕ) (xs : List ℕ) → sum_by (λ x. (f x + g x) % 2) xs % 2 ≡ (sum_by f xs + sum_by g xs) % 2
sums-parity f g [] = refl
sums-parity f g (x ∷ xs) =
    let rest = sums-parity f g xs in
    rw (sum_by-cons (λ y. (f y + g y) % 2) x xs, sum_by-cons f x xs, sum_by-cons g x xs) (omega (arith, rest))

-- ---- how often a number stands in a list

unfoldable pub count : ℕ → List ℕ → ℕ
count q [] = 0
count q (x ∷ xs) = (if x == q then 1 else 0) + count q xs

-- each number of a list is below a bound
unfoldable pub all_below : ℕ → List ℕ → Bool
all_below n [] = true
all_below n (x ∷ xs) = nat_lt x n && all_below n xs

unfoldable pub nonzero : List ℕ → List ℕ
nonzero [] = []
nonzero (x ∷ xs) = if x == 0 then nonzero xs else x ∷ nonzero xs

pub split-zero : (f : ℕ → ℕ) (xs : List ℕ) → sum_by f xs ≡ count 0 xs * f 0 + sum_by f (nonzero xs)
unfolding count nonzero
split-zero f [] = omega arith
split-zero f (x ∷ xs) =
    let rest = split-zero f xs in
    let more = sum_by-cons f x xs in
    elim (eqb_tells x 0) [
      | inl same ↦ (let first : f x ≡ f 0 = ap f same.1 in rw same.0 (omega (arith, rest, more, first)))
      | inr other ↦ (let kept = sum_by-cons f x (nonzero xs) in rw other.0 (omega (arith, rest, more, kept)))
    ]

-- ---- sums over ranges

unfoldable pub range_total : (ℕ → ℕ) → ℕ → ℕ
range_total f zero = 0
range_total f (suc n) = range_total f n + f n

pub range-front : (f : ℕ → ℕ) (n : ℕ) → range_total f (suc n) ≡ f 0 + range_total (λ i. f (suc i)) n
unfolding range_total
range-front f zero = omega arith
range-front f (suc n) = let e = range-front f n in omega (arith, e)

pub range-same : (f g : ℕ → ℕ) (n : ℕ) → ((i : ℕ) → i < n → f i ≡ g i) → range_total f n ≡ range_total g n
unfolding range_total
range-same f g zero e = refl
range-same f g (suc n) e =
    let here = e n (omega arith) in
    let rest = range-same f g n (λ i h. e i (omega arith)) in
    omega (arith, here, rest)

pub range-le : (f g : ℕ → ℕ) (n : ℕ) → ((i : ℕ) → i < n → f i ≤ g i) → range_total f n ≤ range_total g n
unfolding range_total
range-le f g zero e = omega arith
range-le f g (suc n) e =
    let here = e n (omega arith) in
    let rest = range-le f g n (λ i h. e i (omega arith)) in
    omega (arith, here, rest)

range-sum : (f g : ℕ → ℕ) (n : ℕ) → range_total (λ i. f i + g i) n ≡ range_total f n + range_total g n
unfolding range_total
range-sum f g zero = refl
range-sum f g (suc n) = let e = range-sum f g n in omega (arith, e)

pub range-zero : (f : ℕ → ℕ) (n : ℕ) → ((i : ℕ) → i < n → f i ≡ 0) → range_total f n ≡ 0
unfolding range_total
range-zero f zero e = refl
range-zero f (suc n) e =
    let here = e n (omega arith) in
    let rest = range-zero f n (λ i h. e i (omega arith)) in
    omega (arith, here, rest)

-- a sequence that comes back to its first value after n steps has the same sum from the next step on
pub range-turn : (f : ℕ → ℕ) (n : ℕ) → f n ≡ f 0 → range_total (λ i. f (suc i)) n ≡ range_total f n
unfolding range_total
range-turn f n e = let t : range_total f n + f n ≡ f 0 + range_total (λ i. f (suc i)) n = range-front f n in omega (arith, t)

-- one value of a sum
at_most_single : (f : ℕ → ℕ) (x n : ℕ) → x < n → range_total (λ q. (if x == q then 1 else 0) * f q) n ≡ f x
unfolding range_total
at_most_single f x zero h = absurd (omega arith)
at_most_single f x (suc n) h =
    elim (eqb_tells x n) [
      | inl same ↦ (let none : range_total (λ q. (if x == q then 1 else 0) * f q) n ≡ 0 = range-zero (λ q. (if x == q then 1 else 0) * f q) n (λ i k. elim (eqb_tells x i) [
        | inl bad ↦ absurd (omega (arith, bad.1, same.1))
        | inr other ↦ rw other.0 (omega arith)
      ]) in
          let at : f n ≡ f x = ap f (sym same.1) in
          rw same.0 (omega (arith, none, at)))
      | inr other ↦ (let rest = at_most_single f x n (let ne = other.1 in omega (arith, ne)) in rw other.0 (omega (arith, rest)))
    ]

-- a sum over numbers that stand in a list at most once each is at most the sum over their range
sums-counted : (f : ℕ → ℕ) (xs : List ℕ) (n : ℕ) → all_below n xs ≡ true → sum_by f xs ≡ range_total (λ q. count q xs * f q) n
unfolding count all_below
sums-counted f [] n e = sym (range-zero (λ q. 0 * f q) n (λ i h. omega arith))
sums-counted f (x ∷ xs) n e =
    let parts = and_parts (nat_lt x n) (all_below n xs) e in
    let first = at_most_single f x n (ltb-true x n parts.0) in
    let rest = sums-counted f xs n parts.1 in
    let sum = range-sum (λ q. (if x == q then 1 else 0) * f q) (λ q. count q xs * f q) n in
    let same = range-same (λ q. ((if x == q then 1 else 0) + count q xs) * f q) (λ q. (if x == q then 1 else 0) * f q + count q xs * f q) n (λ i h. omega arith) in
    let more = sum_by-cons f x xs in
    omega (arith, first, rest, sum, same, more)

pub sums-le : (f : ℕ → ℕ) (xs : List ℕ) (n : ℕ) → all_below n xs ≡ true → ((q : ℕ) → q < n → count q xs ≤ 1) → sum_by f xs ≤ range_total f n
sums-le f xs n e once =
    let t = sums-counted f xs n e in
    let le = range-le (λ q. count q xs * f q) f n (λ q h. (let m : count q xs * f q ≤ 1 * f q = mul-le-mul_right (f q) (once q h) in omega (arith, m))) in
    omega (arith, t, le)
