-- The branches between the lanes.
use Rattle.std.proofs.Common.{List, cond, subst, get_or, eqb, [], ◌≡◌, ℕ, ◌+◌, ◌*◌, ◌/◌, ◌%◌, ◌<◌, ◌≤◌, Bool, true, false, refl, ap, sym, ◌∙◌, arith, inl, inr}
use Rattle.std.specs.Prelude.{nat_eq, nat_lt}
use Rattle.std.proofs.lemmas.Bool.{agree_below_at, cases_eq, eqb-true}
use Rattle.viterbi_hard.specs.declared.lanes.TheConstants.{EVEN_COSTS, ODD_COSTS}
use Rattle.viterbi_hard.specs.declared.received.Decision.TheVariants.{Punctured, Zero, One}
use Rattle.viterbi_hard.specs.declared.received.Decision.{Decision}
use Rattle.viterbi_hard.specs.declared.received.Received.{Received}
use Rattle.viterbi_hard.specs.Steps.{decision_at, read_of}
use Rattle.viterbi_hard.specs.Trellis.{branch_metric, previous}
use Rattle.viterbi_hard.specs.States.{place_of, even_metric, odd_metric, next_metric, next_tag, odd, state_of, branch_metric_at}
use Rattle.viterbi_hard.proofs.TrellisLaws.{branch_metric_le}

pub odd_same : (a b : ℕ) → a % 2 ≡ b % 2 → odd a ≡ odd b
odd_same a b h = ap (λ n. nat_eq n 1) h

-- the state one step before that of lane n, by the bit that left
pub previous-even : (n : ℕ) → n < 64 → previous (state_of n) false ≡ state_of (n / 2)
previous-even n h =
    let none : n / 2 / 32 % 2 ≡ 0 = omega arith in
    let left : odd (n / 2 / 32) ≡ false = ap (λ k. nat_eq k 1) none in
    rw (
      odd_same (n / 4) (n / 2 / 2) (omega arith),
      odd_same (n / 8) (n / 2 / 4) (omega arith),
      odd_same (n / 16) (n / 2 / 8) (omega arith),
      odd_same (n / 32) (n / 2 / 16) (omega arith),
      left,
    )

pub previous-odd : (n : ℕ) → n < 64 → previous (state_of n) true ≡ state_of (32 + n / 2)
previous-odd n h =
    let some : (32 + n / 2) / 32 % 2 ≡ 1 = omega arith in
    let left : odd ((32 + n / 2) / 32) ≡ true = ap (λ k. nat_eq k 1) some in
    rw (
      odd_same (n / 2) (32 + n / 2) (omega arith),
      odd_same (n / 4) ((32 + n / 2) / 2) (omega arith),
      odd_same (n / 8) ((32 + n / 2) / 4) (omega arith),
      odd_same (n / 16) ((32 + n / 2) / 8) (omega arith),
      odd_same (n / 32) ((32 + n / 2) / 16) (omega arith),
      left,
    )

-- a state is that of the six lowest bits of a tag
pub state_low : (tag more : ℕ) → state_of (tag + 64 * more) ≡ state_of tag
state_low tag more = rw (
  odd_same (tag + 64 * more) tag (omega arith),
  odd_same ((tag + 64 * more) / 2) (tag / 2) (omega arith),
  odd_same ((tag + 64 * more) / 4) (tag / 4) (omega arith),
  odd_same ((tag + 64 * more) / 8) (tag / 8) (omega arith),
  odd_same ((tag + 64 * more) / 16) (tag / 16) (omega arith),
  odd_same ((tag + 64 * more) / 32) (tag / 32) (omega arith),
)

pub state_mod : (tag : ℕ) → state_of (tag % 64) ≡ state_of tag
state_mod tag = let whole : tag % 64 + 64 * (tag / 64) ≡ tag = omega arith in sym (state_low (tag % 64) (tag / 64)) ∙ ap state_of whole

pub branch_metric_at_le : (r : Received) (n : ℕ) (g : Bool) → branch_metric_at r n g ≤ 2
branch_metric_at_le r n g = branch_metric_le r _ _ _ _ _ _ g

-- ---- the tables of costs

abbrev read : Decision → Decision → Received
read m k = record { x = m; y = k }

-- to turn both a step's own bit and the one six steps before turns neither output
abbrev turned_even : Decision → Decision → ℕ → Bool
turned_even m k i = eqb (branch_metric_at (read m k) (2 * i) true) (branch_metric_at (read m k) (2 * i + 1) false)

abbrev turned_odd : Decision → Decision → ℕ → Bool
turned_odd m k i = eqb (branch_metric_at (read m k) (2 * i) false) (branch_metric_at (read m k) (2 * i + 1) true)

even_turns : (m k : Decision) (i : ℕ) → i < 32 → turned_even m k i ≡ true
unfolding branch_metric
even_turns Punctured Punctured i h = agree_below_at (turned_even Punctured Punctured) (λ _. true) 32 i refl h
even_turns Punctured Zero i h = agree_below_at (turned_even Punctured Zero) (λ _. true) 32 i refl h
even_turns Punctured One i h = agree_below_at (turned_even Punctured One) (λ _. true) 32 i refl h
even_turns Zero Punctured i h = agree_below_at (turned_even Zero Punctured) (λ _. true) 32 i refl h
even_turns Zero Zero i h = agree_below_at (turned_even Zero Zero) (λ _. true) 32 i refl h
even_turns Zero One i h = agree_below_at (turned_even Zero One) (λ _. true) 32 i refl h
even_turns One Punctured i h = agree_below_at (turned_even One Punctured) (λ _. true) 32 i refl h
even_turns One Zero i h = agree_below_at (turned_even One Zero) (λ _. true) 32 i refl h
even_turns One One i h = agree_below_at (turned_even One One) (λ _. true) 32 i refl h

odd_turns : (m k : Decision) (i : ℕ) → i < 32 → turned_odd m k i ≡ true
unfolding branch_metric
odd_turns Punctured Punctured i h = agree_below_at (turned_odd Punctured Punctured) (λ _. true) 32 i refl h
odd_turns Punctured Zero i h = agree_below_at (turned_odd Punctured Zero) (λ _. true) 32 i refl h
odd_turns Punctured One i h = agree_below_at (turned_odd Punctured One) (λ _. true) 32 i refl h
odd_turns Zero Punctured i h = agree_below_at (turned_odd Zero Punctured) (λ _. true) 32 i refl h
odd_turns Zero Zero i h = agree_below_at (turned_odd Zero Zero) (λ _. true) 32 i refl h
odd_turns Zero One i h = agree_below_at (turned_odd Zero One) (λ _. true) 32 i refl h
odd_turns One Punctured i h = agree_below_at (turned_odd One Punctured) (λ _. true) 32 i refl h
odd_turns One Zero i h = agree_below_at (turned_odd One Zero) (λ _. true) 32 i refl h
odd_turns One One i h = agree_below_at (turned_odd One One) (λ _. true) 32 i refl h

-- row k for the number k
even_rows : (m : ℕ) → m < 512 → eqb (get_or (get_or EVEN_COSTS (m / 32) []) (m % 32) 0) (branch_metric_at (read_of (m / 32)) (2 * (m % 32)) false) ≡ true
unfolding branch_metric
even_rows m h = agree_below_at (λ m. eqb (get_or (get_or EVEN_COSTS (m / 32) []) (m % 32) 0) (branch_metric_at (read_of (m / 32)) (2 * (m % 32)) false)) (λ _. true) 512 m refl h

odd_rows : (m : ℕ) → m < 512 → eqb (get_or (get_or ODD_COSTS (m / 32) []) (m % 32) 0) (branch_metric_at (read_of (m / 32)) (2 * (m % 32)) true) ≡ true
unfolding branch_metric
odd_rows m h = agree_below_at (λ m. eqb (get_or (get_or ODD_COSTS (m / 32) []) (m % 32) 0) (branch_metric_at (read_of (m / 32)) (2 * (m % 32)) true)) (λ _. true) 512 m refl h

read_mod : (k : ℕ) → read_of (k % 16) ≡ read_of k
read_mod k =
    let x : k % 16 / 4 % 4 ≡ k / 4 % 4 = omega arith in
    let y : k % 16 % 4 ≡ k % 4 = omega arith in
    rw (x, y)

pub even_cost : (k i : ℕ) → i < 32 → get_or (get_or EVEN_COSTS (k % 16) []) i 0 ≡ branch_metric_at (read_of k) (2 * i) false
even_cost k i h =
    let row : (32 * (k % 16) + i) / 32 ≡ k % 16 = omega arith in
    let place : (32 * (k % 16) + i) % 32 ≡ i = omega arith in
    let test : ℕ → ℕ → Bool = λ r j. eqb (get_or (get_or EVEN_COSTS r []) j 0) (branch_metric_at (read_of r) (2 * j) false) in
    eqb-true _ _ (ap (λ r. test r i) (sym row) ∙ ap (λ j. test ((32 * (k % 16) + i) / 32) j) (sym place) ∙ even_rows (32 * (k % 16) + i) (omega arith))
    ∙ ap (λ r. branch_metric_at r (2 * i) false) (read_mod k)

pub odd_cost : (k i : ℕ) → i < 32 → get_or (get_or ODD_COSTS (k % 16) []) i 0 ≡ branch_metric_at (read_of k) (2 * i) true
odd_cost k i h =
    let row : (32 * (k % 16) + i) / 32 ≡ k % 16 = omega arith in
    let place : (32 * (k % 16) + i) % 32 ≡ i = omega arith in
    let test : ℕ → ℕ → Bool = λ r j. eqb (get_or (get_or ODD_COSTS r []) j 0) (branch_metric_at (read_of r) (2 * j) true) in
    eqb-true _ _ (ap (λ r. test r i) (sym row) ∙ ap (λ j. test ((32 * (k % 16) + i) / 32) j) (sym place) ∙ odd_rows (32 * (k % 16) + i) (omega arith))
    ∙ ap (λ r. branch_metric_at r (2 * i) true) (read_mod k)

-- the number of what was read
pub read_number : (r : Received) → read_of (4 * place_of r.x + place_of r.y) ≡ r
read_number r = rw (x_is r.x r.y, y_is r.x r.y)
  where
    x_is : (m k : Decision) → decision_at ((4 * place_of m + place_of k) / 4 % 4) ≡ m
    x_is Punctured Punctured = refl
    x_is Punctured Zero = refl
    x_is Punctured One = refl
    x_is Zero Punctured = refl
    x_is Zero Zero = refl
    x_is Zero One = refl
    x_is One Punctured = refl
    x_is One Zero = refl
    x_is One One = refl

    y_is : (m k : Decision) → decision_at ((4 * place_of m + place_of k) % 4) ≡ k
    y_is Punctured Punctured = refl
    y_is Punctured Zero = refl
    y_is Punctured One = refl
    y_is Zero Punctured = refl
    y_is Zero Zero = refl
    y_is Zero One = refl
    y_is One Punctured = refl
    y_is One Zero = refl
    y_is One One = refl

-- ---- the metrics of lanes 2 * i and 2 * i + 1 through their even and their odd states before

pub zero_even : (r : Received) (metrics : List ℕ) (i : ℕ) → i < 32 → get_or metrics i 0 + branch_metric_at r (2 * i) false ≡ even_metric r metrics (2 * i)
zero_even r metrics i h = let e : i ≡ 2 * i / 2 = omega arith in ap (λ k. get_or metrics k 0 + branch_metric_at r (2 * i) false) e

pub zero_odd : (r : Received) (metrics : List ℕ) (i : ℕ) → i < 32 → get_or metrics (32 + i) 0 + branch_metric_at r (2 * i) true ≡ odd_metric r metrics (2 * i)
zero_odd r metrics i h = let e : i ≡ 2 * i / 2 = omega arith in ap (λ k. get_or metrics (32 + k) 0 + branch_metric_at r (2 * i) true) e

pub one_even : (r : Received) (metrics : List ℕ) (i : ℕ) → i < 32 → get_or metrics i 0 + branch_metric_at r (2 * i) true ≡ even_metric r metrics (2 * i + 1)
one_even r metrics i h =
    let e : i ≡ (2 * i + 1) / 2 = omega arith in
    ap (λ b. get_or metrics i 0 + b) (eqb-true _ _ (even_turns r.x r.y i h)) ∙ ap (λ k. get_or metrics k 0 + branch_metric_at r (2 * i + 1) false) e

pub one_odd : (r : Received) (metrics : List ℕ) (i : ℕ) → i < 32 → get_or metrics (32 + i) 0 + branch_metric_at r (2 * i) false ≡ odd_metric r metrics (2 * i + 1)
one_odd r metrics i h =
    let e : i ≡ (2 * i + 1) / 2 = omega arith in
    ap (λ b. get_or metrics (32 + i) 0 + b) (eqb-true _ _ (odd_turns r.x r.y i h)) ∙ ap (λ k. get_or metrics (32 + k) 0 + branch_metric_at r (2 * i + 1) true) e

-- a fact of the even lanes and of the odd ones
pub by_parity : (P : ℕ → Type 0) → ((i : ℕ) → i < 32 → P (2 * i)) → ((i : ℕ) → i < 32 → P (2 * i + 1)) → (n : ℕ) → n < 64 → P n
by_parity P zeros ones n h = elim (cases_eq (n % 2) 0) [
  | inl e ↦ let place : 2 * (n / 2) ≡ n = omega arith in subst P place (zeros (n / 2) (omega arith))
  | inr d ↦ let place : 2 * (n / 2) + 1 ≡ n = omega arith in subst P place (ones (n / 2) (omega arith))
]

-- the choice of a lane
pub chosen_metric : (r : Received) (metrics : List ℕ) (n x y : ℕ) → x ≡ even_metric r metrics n → y ≡ odd_metric r metrics n → cond (nat_lt y x) y x ≡ next_metric r metrics n
chosen_metric r metrics n x y ex ey = rw (ex, ey)

pub chosen_tag : (r : Received) (metrics tags : List ℕ) (n x y k l j : ℕ) → j ≡ n / 2 → x ≡ even_metric r metrics n → y ≡ odd_metric r metrics n → k ≡ get_or tags j 0 → l ≡ get_or tags (32 + j) 0 → cond (nat_lt y x) l k ≡ next_tag r metrics tags n
chosen_tag r metrics tags n x y k l j ej ex ey ek el = rw (ex, ey, ek, el, ej)
