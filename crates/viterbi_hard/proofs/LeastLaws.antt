-- The least path of the definition is the only one that is better than all others.
use Rattle.std.proofs.Common.{◌≡◌, ℕ, zero, suc, ◌<◌, ◌≤◌, Bool, true, false, cond, List, [], ◌∷◌, ◌++◌, length, map, replicate, refl, ap, sym, ◌∙◌, subst, arith, inl, inr}
use Rattle.std.specs.Prelude.{nat_lt}
use Rattle.std.specs.List.{AllByRecursion}
use Rattle.std.proofs.lemmas.Bool.{ltb-true, ltb-false}
use Rattle.std.proofs.Math.Nat.{eq-or-lt_of_le}
use Rattle.viterbi_hard.specs.LeastPath.{IsBetter, IsLeast, all_paths, first_least, no_later}
use Rattle.viterbi_hard.proofs.TrellisLaws.{no_later_trans, no_later_refl}

-- ---- the paths stand in their order

all-append : (P : List Bool → Type 0) (xs ys : List (List Bool)) → AllByRecursion P xs → AllByRecursion P ys → AllByRecursion P (xs ++ ys)
all-append P [] ys h k = k
all-append P (x ∷ xs) ys h k = (h.0, all-append P xs ys h.1 k)

all-map : (P Q : List Bool → Type 0) (f : List Bool → List Bool) → ((p : List Bool) → P p → Q (f p)) → (xs : List (List Bool)) → AllByRecursion P xs → AllByRecursion Q (map f xs)
all-map P Q f h [] k = tt
all-map P Q f h (x ∷ xs) k = (h x k.0, all-map P Q f h xs k.1)

all-any : (P : List Bool → Type 0) → ((p : List Bool) → P p) → (xs : List (List Bool)) → AllByRecursion P xs
all-any P h [] = tt
all-any P h (x ∷ xs) = (h x, all-any P h xs)

-- each is no later than those behind it
abbrev IsInOrder : List (List Bool) → Type 0
IsInOrder [] = Unit {0}
IsInOrder (p ∷ ps) = AllByRecursion (λ q. no_later p q ≡ true) ps × IsInOrder ps

order-map : (x : Bool) (ps : List (List Bool)) → IsInOrder ps → IsInOrder (map (λ p. x ∷ p) ps)
order-map x [] h = tt
order-map true (p ∷ ps) h = (all-map (λ q. no_later p q ≡ true) (λ q. no_later (true ∷ p) q ≡ true) (λ q. true ∷ q) (λ q e. e) ps h.0, order-map true ps h.1)
order-map false (p ∷ ps) h = (all-map (λ q. no_later p q ≡ true) (λ q. no_later (false ∷ p) q ≡ true) (λ q. false ∷ q) (λ q e. e) ps h.0, order-map false ps h.1)

-- paths with 0 in front come before those with 1
order-halves : (ps qs : List (List Bool)) → IsInOrder (map (λ p. false ∷ p) ps) → IsInOrder (map (λ q. true ∷ q) qs) → IsInOrder (map (λ p. false ∷ p) ps ++ map (λ q. true ∷ q) qs)
order-halves [] qs h k = k
order-halves (p ∷ ps) qs h k = (
  all-append (λ q. no_later (false ∷ p) q ≡ true) (map (λ p. false ∷ p) ps) (map (λ q. true ∷ q) qs) h.0
      (all-map (λ q. Unit {0}) (λ q. no_later (false ∷ p) q ≡ true) (λ q. true ∷ q) (λ q e. refl) qs (all-any (λ q. Unit {0}) (λ q. tt) qs)),
  order-halves ps qs h.1 k,
)

order-all : (n : ℕ) → IsInOrder (all_paths n)
unfolding all_paths
order-all zero = (tt, tt)
order-all (suc n) = order-halves (all_paths n) (all_paths n) (order-map false (all_paths n) (order-all n)) (order-map true (all_paths n) (order-all n))

-- ---- they are all lists of their length

length-all : (n : ℕ) → AllByRecursion (λ p. length p ≡ n) (all_paths n)
unfolding all_paths
length-all zero = (refl, tt)
length-all (suc n) =
    all-append (λ p. length p ≡ suc n) (map (λ p. false ∷ p) (all_paths n)) (map (λ p. true ∷ p) (all_paths n))
    (all-map (λ p. length p ≡ n) (λ p. length p ≡ suc n) (λ p. false ∷ p) (λ p e. ap suc e) (all_paths n) (length-all n))
    (all-map (λ p. length p ≡ n) (λ p. length p ≡ suc n) (λ p. true ∷ p) (λ p e. ap suc e) (all_paths n) (length-all n))

left-half : (P : List Bool → Type 0) (xs ys : List (List Bool)) → AllByRecursion P (xs ++ ys) → AllByRecursion P xs
left-half P [] ys h = tt
left-half P (x ∷ xs) ys h = (h.0, left-half P xs ys h.1)

right-half : (P : List Bool → Type 0) (xs ys : List (List Bool)) → AllByRecursion P (xs ++ ys) → AllByRecursion P ys
right-half P [] ys h = h
right-half P (x ∷ xs) ys h = right-half P xs ys h.1

of-map : (P : List Bool → Type 0) (f : List Bool → List Bool) (xs : List (List Bool)) → AllByRecursion P (map f xs) → AllByRecursion (λ p. P (f p)) xs
of-map P f [] h = tt
of-map P f (x ∷ xs) h = (h.0, of-map P f xs h.1)

-- what holds of all paths holds of each list of that length
all-listed : (P : List Bool → Type 0) (q : List Bool) → AllByRecursion P (all_paths (length q)) → P q
unfolding all_paths
all-listed P [] h = h.0
all-listed P (false ∷ q) h = all-listed (λ p. P (false ∷ p)) q (of-map P (λ p. false ∷ p) (all_paths (length q)) (left-half P (map (λ p. false ∷ p) (all_paths (length q))) (map (λ p. true ∷ p) (all_paths (length q))) h))
all-listed P (true ∷ q) h = all-listed (λ p. P (true ∷ p)) q (of-map P (λ p. true ∷ p) (all_paths (length q)) (right-half P (map (λ p. false ∷ p) (all_paths (length q))) (map (λ p. true ∷ p) (all_paths (length q))) h))

-- ---- the first of least cost is better than all

-- better, as a fact that names its parts
record Beats (cost : List Bool → ℕ) (p q : List Bool) : Type 0 where
  is : IsBetter cost p q

beats-self : (cost : List Bool → ℕ) (p : List Bool) → Beats cost p p
beats-self cost p = record { is = inr (refl, no_later_refl p) }

beats-le : (cost : List Bool → ℕ) (r p : List Bool) → Beats cost r p → cost r ≤ cost p
beats-le cost r p h = elim h.is [ inl l ↦ omega arith | inr w ↦ omega (arith, w.0) ]

-- what is better than p is better than each q that costs more than p, or as much and is no earlier
beats-less : (cost : List Bool → ℕ) (r p q : List Bool) → Beats cost r p → cost p < cost q → Beats cost r q
beats-less cost r p q h l = record { is = (let k = beats-le cost r p h in inl (omega (arith, k))) }

beats-then : (cost : List Bool → ℕ) (r p q : List Bool) → Beats cost r p → cost p ≤ cost q → no_later p q ≡ true → Beats cost r q
beats-then cost r p q h le k = elim (eq-or-lt_of_le le) [
  | inr l ↦ beats-less cost r p q h l
  | inl e ↦ elim h.is [
    | inl l ↦ record { is = inl (omega (arith, e)) }
    | inr w ↦ record { is = inr (w.0 ∙ e, no_later_trans r p q w.1 k) }
  ]
]

-- one path more, where the rest begins from it or from the best so far
beats-either : (cost : List Bool → ℕ) (best p : List Bool) (ps : List (List Bool)) (b : Bool) → nat_lt (cost p) (cost best) ≡ b → no_later best p ≡ true
    → Beats cost (first_least cost p ps) p × AllByRecursion (λ q. Beats cost (first_least cost p ps) q) ps
    → Beats cost (first_least cost best ps) best × AllByRecursion (λ q. Beats cost (first_least cost best ps) q) ps
    → Beats cost (first_least cost (cond b p best) ps) best × AllByRecursion (λ q. Beats cost (first_least cost (cond b p best) ps) q) (p ∷ ps)
beats-either cost best p ps true e later new old = (beats-less cost (first_least cost p ps) p best new.0 (ltb-true (cost p) (cost best) e), (new.0, new.1))
beats-either cost best p ps false e later new old = (old.0, (beats-then cost (first_least cost best ps) best p old.0 (ltb-false (cost p) (cost best) e) later, old.1))

first-beats : (cost : List Bool → ℕ) (best : List Bool) (ps : List (List Bool)) → AllByRecursion (λ p. no_later best p ≡ true) ps → IsInOrder ps
    → Beats cost (first_least cost best ps) best × AllByRecursion (λ p. Beats cost (first_least cost best ps) p) ps
unfolding first_least
first-beats cost best [] h k = (beats-self cost best, tt)
first-beats cost best (p ∷ ps) h k = beats-either cost best p ps (nat_lt (cost p) (cost best)) refl h.0 (first-beats cost p ps k.0 k.1) (first-beats cost best ps h.1 k.1)

first-keeps : (P : List Bool → Type 0) (cost : List Bool → ℕ) (best : List Bool) (ps : List (List Bool)) → P best → AllByRecursion P ps → P (first_least cost best ps)
unfolding first_least
first-keeps P cost best [] h hs = h
first-keeps P cost best (p ∷ ps) h hs = first-keeps P cost (cond (nat_lt (cost p) (cost best)) p best) ps (chosen (nat_lt (cost p) (cost best))) hs.1
  where
    chosen : (b : Bool) → P (cond b p best)
    chosen true = hs.0
    chosen false = h

zeros-first : (n : ℕ) (p : List Bool) → length p ≡ n → no_later (replicate n false) p ≡ true
zeros-first zero p e = refl
zeros-first (suc n) [] e = absurd (omega arith)
zeros-first (suc n) (false ∷ p) e = zeros-first n p (omega arith)
zeros-first (suc n) (true ∷ p) e = refl

length-zeros : (n : ℕ) → length (replicate n false) ≡ n
length-zeros zero = refl
length-zeros (suc n) = ap suc (length-zeros n)

all-from : (P Q : List Bool → Type 0) → ((p : List Bool) → P p → Q p) → (ps : List (List Bool)) → AllByRecursion P ps → AllByRecursion Q ps
all-from P Q h [] k = tt
all-from P Q h (p ∷ ps) k = (h p k.0, all-from P Q h ps k.1)

pub first-is_least : (cost : List Bool → ℕ) (n : ℕ) → IsLeast cost n (first_least cost (replicate n false) (all_paths n))
first-is_least cost n =
    let first : List Bool = first_least cost (replicate n false) (all_paths n) in
    let beats = first-beats cost (replicate n false) (all_paths n) (all-from (λ p. length p ≡ n) (λ p. no_later (replicate n false) p ≡ true) (zeros-first n) (all_paths n) (length-all n)) (order-all n) in
    record {
      long = first-keeps (λ p. length p ≡ n) cost (replicate n false) (all_paths n) (length-zeros n) (length-all n);
      least = λ q e. (all-listed (λ p. Beats cost (first_least cost (replicate n false) (all_paths n)) p) q (subst (λ m. AllByRecursion (λ p. Beats cost (first_least cost (replicate n false) (all_paths n)) p) (all_paths m)) (sym e) beats.1)).is;
    }

-- by costs that agree on the lists of that length
pub least-same : (cost other : List Bool → ℕ) (n : ℕ) (p : List Bool) → ((q : List Bool) → length q ≡ n → cost q ≡ other q) → IsLeast cost n p → IsLeast other n p
least-same cost other n p h l = record {
  long = l.long;
  least = λ q e.
      let own = h p l.long in
      let its = h q e in
      elim (l.least q e) [
        | inl lt ↦ inl (omega (arith, own, its))
        | inr w ↦ inr (sym own ∙ w.0 ∙ its, w.1)
      ];
}
