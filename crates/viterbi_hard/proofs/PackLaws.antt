-- Lanes and states, and the order of paths by their states' numbers.
use Rattle.std.proofs.Common.{◌≡◌, ℕ, zero, suc, ◌+◌, ◌*◌, ◌/◌, ◌%◌, ◌^◌, ◌<◌, ◌≤◌, Bool, true, false, cond, List, [], ◌∷◌, length, eqb, refl, ap, sym, ◌∙◌, arith}
use Rattle.std.specs.Prelude.{nat_eq}
use Rattle.std.proofs.lemmas.Bool.{agree_below_at, eqb-true}
use Rattle.viterbi_hard.specs.LeastPath.{no_later}
use Rattle.viterbi_hard.specs.Trellis.{TrellisState, path_of}
use Rattle.viterbi_hard.specs.States.{natural_of, odd, state_of}

-- the first k bits as a number, the newest the highest, with zeros where the list ends
abbrev pack : ℕ → List Bool → ℕ
pack zero l = 0
pack (suc k) [] = 0
pack (suc k) (x ∷ l) = cond x (2 ^ k) 0 + pack k l

pack-lt : (k : ℕ) (l : List Bool) → pack k l < 2 ^ k
pack-lt zero l = omega arith
pack-lt (suc k) [] = omega (arith, pack-lt k [])
pack-lt (suc k) (true ∷ l) = omega (arith, pack-lt k l)
pack-lt (suc k) (false ∷ l) = omega (arith, pack-lt k l)

natural-pack : (n : ℕ) (t : List Bool) → n < 64 → pack 6 (path_of (state_of n) t) ≡ natural_of n
natural-pack n t h = eqb-true _ _ (agree_below_at (λ n. eqb (pack 6 (path_of (state_of n) t)) (natural_of n)) (λ _. true) 64 n refl h)

-- of two paths the one whose state has the lower number comes first
pack_order : (k : ℕ) (p q : List Bool) → k ≤ length p → k ≤ length q → pack k p < pack k q → no_later p q ≡ true
pack_order zero p q h k lt = absurd (omega arith)
pack_order (suc n) [] q h k lt = absurd (omega arith)
pack_order (suc n) (x ∷ p) [] h k lt = absurd (omega arith)
pack_order (suc n) (false ∷ p) (false ∷ q) h k lt = pack_order n p q (omega arith) (omega arith) (omega arith)
pack_order (suc n) (true ∷ p) (true ∷ q) h k lt = pack_order n p q (omega arith) (omega arith) (omega arith)
pack_order (suc n) (false ∷ p) (true ∷ q) h k lt = refl
pack_order (suc n) (true ∷ p) (false ∷ q) h k lt = absurd (omega (arith, pack-lt n q))

pub natural_order : (n m : ℕ) (p q : List Bool) → n < 64 → m < 64 → natural_of n < natural_of m → no_later (path_of (state_of n) p) (path_of (state_of m) q) ≡ true
natural_order n m p q h k lt =
    pack_order 6 (path_of (state_of n) p) (path_of (state_of m) q) (omega arith) (omega arith) (omega (arith, natural-pack n p h, natural-pack m q k))

-- a number read backwards twice is itself
natural_twice : (n : ℕ) → n < 64 → natural_of (natural_of n) ≡ n
natural_twice n h = eqb-true _ _ (agree_below_at (λ n. eqb (natural_of (natural_of n)) n) (λ _. true) 64 n refl h)

pub natural_same : (n m : ℕ) → n < 64 → m < 64 → natural_of n ≡ natural_of m → n ≡ m
natural_same n m h k e = sym (natural_twice n h) ∙ ap natural_of e ∙ natural_twice m k

-- ---- the lane of a state

abbrev pub lane_of : TrellisState → ℕ
lane_of s = cond s.u1 1 0 + 2 * cond s.u2 1 0 + 4 * cond s.u3 1 0 + 8 * cond s.u4 1 0 + 16 * cond s.u5 1 0 + 32 * cond s.u6 1 0

cond_one : (x : Bool) → cond x 1 0 ≤ 1
cond_one true = omega arith
cond_one false = omega arith

odd_of : (x : Bool) (n : ℕ) → n % 2 ≡ cond x 1 0 → odd n ≡ x
odd_of true n h = ap (λ k. nat_eq k 1) h
odd_of false n h = ap (λ k. nat_eq k 1) h

module _ (s : TrellisState) where
  pub lane-lt : lane_of s < 64
  lane-lt = omega (arith, cond_one s.u1, cond_one s.u2, cond_one s.u3, cond_one s.u4, cond_one s.u5, cond_one s.u6)

  pub state-lane : state_of (lane_of s) ≡ s
  state-lane =
      let b1 = cond_one s.u1 in
      let b2 = cond_one s.u2 in
      let b3 = cond_one s.u3 in
      let b4 = cond_one s.u4 in
      let b5 = cond_one s.u5 in
      let b6 = cond_one s.u6 in
      rw (
        odd_of s.u1 (lane_of s) (omega arith),
        odd_of s.u2 (lane_of s / 2) (omega arith),
        odd_of s.u3 (lane_of s / 4) (omega arith),
        odd_of s.u4 (lane_of s / 8) (omega arith),
        odd_of s.u5 (lane_of s / 16) (omega arith),
        odd_of s.u6 (lane_of s / 32) (omega arith),
      )
