-- Paths through the trellis: states, branch and path metrics, survivors. Lists have the newest step or bit first.
use Rattle.std.specs.Prelude.{◌≡◌, ℕ, ◌+◌, ◌<◌, ◌⊎◌, Bool, true, false, cond, List, [], ◌∷◌, length, get_or, nat_lt}
use Rattle.isdbt_base.specs.Bits.{◌⊕◌}
use Rattle.viterbi_hard.specs.declared.received.Decision.{Decision}
use Rattle.viterbi_hard.specs.declared.received.Decision.TheVariants.{Punctured, Zero, One}
use Rattle.viterbi_hard.specs.declared.received.Received.{Received}
use Rattle.viterbi_hard.specs.LeastPath.{IsLeast, no_later}

-- the bit that came i steps before the newest
abbrev pub bit : List Bool → ℕ → Bool
bit u i = get_or u i false

-- the outputs of the newest step
abbrev pub sum_x : List Bool → Bool
sum_x u = bit u 0 ⊕ bit u 1 ⊕ bit u 2 ⊕ bit u 3 ⊕ bit u 6

abbrev pub sum_y : List Bool → Bool
sum_y u = bit u 0 ⊕ bit u 2 ⊕ bit u 3 ⊕ bit u 5 ⊕ bit u 6

-- 1 where an output differs from what was read in its place, 0 where it was punctured
abbrev pub differs : Decision → Bool → ℕ
differs Punctured b = 0
differs Zero b = cond b 1 0
differs One b = cond b 0 1

-- the branch metric of a step: in how many places its outputs differ from what was read, from its bit u0 and the bits
-- u1 to u6 before it
unfoldable pub branch_metric : Received → Bool → Bool → Bool → Bool → Bool → Bool → Bool → ℕ
branch_metric r u0 u1 u2 u3 u4 u5 u6 = differs r.x (u0 ⊕ u1 ⊕ u2 ⊕ u3 ⊕ u6) + differs r.y (u0 ⊕ u2 ⊕ u3 ⊕ u5 ⊕ u6)

-- a trellis state: six bits, the newest first
pub record TrellisState : Type 0 where
  pub u1 : Bool
  pub u2 : Bool
  pub u3 : Bool
  pub u4 : Bool
  pub u5 : Bool
  pub u6 : Bool

-- the state of the six newest bits of a list
abbrev pub newest_state : List Bool → TrellisState
newest_state l = record { u1 = bit l 0; u2 = bit l 1; u3 = bit l 2; u4 = bit l 3; u5 = bit l 4; u6 = bit l 5 }

-- the path that ends in a state, from its older bits
abbrev pub path_of : TrellisState → List Bool → List Bool
path_of s t = s.u1 ∷ s.u2 ∷ s.u3 ∷ s.u4 ∷ s.u5 ∷ s.u6 ∷ t

-- the state one step before, where g was its oldest bit
abbrev pub previous : TrellisState → Bool → TrellisState
previous s g = record { u1 = s.u2; u2 = s.u3; u3 = s.u4; u4 = s.u5; u5 = s.u6; u6 = g }

abbrev pub any_of : TrellisState → Bool
any_of s = cond s.u1 true (cond s.u2 true (cond s.u3 true (cond s.u4 true (cond s.u5 true s.u6))))

-- the metric of a state before the first step: nothing at zeros, and else more than any six steps can cost
abbrev pub start_metric : TrellisState → ℕ
start_metric s = cond (any_of s) 16 0

-- the path metric of the path that ends in state s, with older bits t, of which the last six are the state at the start
abbrev pub path_metric : List Received → TrellisState → List Bool → ℕ
path_metric [] s t = start_metric s
path_metric (r ∷ rs) s [] = 0
path_metric (r ∷ rs) s (g ∷ t) = branch_metric r s.u1 s.u2 s.u3 s.u4 s.u5 s.u6 g + path_metric rs (previous s g) t

-- the survivor of state s, by its older bits: of the survivors of the two states before it, extended, the one of smaller
-- metric, and on equal metrics the one whose bit just before the state's six is 0
abbrev pub survivor : List Received → TrellisState → List Bool
survivor [] s = []
survivor (r ∷ rs) s =
    let p = survivor rs (previous s false) in
    let q = survivor rs (previous s true) in
    cond (nat_lt (path_metric (r ∷ rs) s (true ∷ q)) (path_metric (r ∷ rs) s (false ∷ p))) (true ∷ q) (false ∷ p)

-- paths of two states, the first at least as good
abbrev pub Precedes : List Received → TrellisState → List Bool → TrellisState → List Bool → Type 0
Precedes rs s p s' t =
    (path_metric rs s p < path_metric rs s' t)
    ⊎ ((path_metric rs s p ≡ path_metric rs s' t) × (no_later (path_of s p) (path_of s' t) ≡ true))

-- the state's survivor is the best of all survivors
abbrev pub IsChosen : List Received → TrellisState → Type 0
IsChosen rs s = (s' : TrellisState) → Precedes rs s (survivor rs s) s' (survivor rs s')

-- the metric of a whole list of bits, with zeros before it
abbrev pub list_metric : List Received → List Bool → ℕ
list_metric [] u = 0
list_metric (r ∷ rs) [] = 0
list_metric (r ∷ rs) (x ∷ u) =
    branch_metric r x (bit u 0) (bit u 1) (bit u 2) (bit u 3) (bit u 4) (bit u 5) + list_metric rs u

-- b is the bit 127 steps before the newest of the least path
pub record IsDecided (rs : List Received) (b : Bool) : Type 0 where
  pub path : List Bool
  pub least : IsLeast (list_metric rs) (length rs) path
  pub is : bit path 127 ≡ b
