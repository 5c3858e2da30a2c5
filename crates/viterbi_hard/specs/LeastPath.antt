-- Maximum likelihood decoding of the inner code from hard decisions, with a traceback window of 128 steps.
-- A path is a list of input bits, the newest first.
use Rattle.std.specs.Prelude.{◌≡◌, ℕ, zero, suc, ◌+◌, ◌-◌, ◌<◌, ◌⊎◌, Bool, true, false, List, [], ◌∷◌, ◌++◌, length, map, replicate, if◌then◌else◌, nat_lt, slice_index_or, IsTrue}
use Rattle.isdbt_base.specs.declared.kinds.Rate.{Rate}
use Rattle.conv_punct.specs.CodedCost.{coded_cost}

-- input bit i of a path
abbrev pub path_bit : List Bool → ℕ → Bool
path_bit path i = slice_index_or path (length path - 1 - i) false

-- the cost of a path: at how many places its coded bits differ from the bits that were read
abbrev pub path_cost : Rate → (ℕ → Bool) → List Bool → ℕ
path_cost rate read path = coded_cost rate read (length path) (path_bit path)

-- the paths over n steps, in the order of their bits from the newest back, 0 before 1
unfoldable pub all_paths : ℕ → List (List Bool)
all_paths zero = [] ∷ []
all_paths (suc n) = map (λ path. false ∷ path) (all_paths n) ++ map (λ path. true ∷ path) (all_paths n)

-- the first path of least cost, from the best so far on
unfoldable pub first_least : (List Bool → ℕ) → List Bool → List (List Bool) → List Bool
first_least cost best [] = best
first_least cost best (path ∷ others) = first_least cost (if nat_lt (cost path) (cost best) then path else best) others

-- the least path over n steps: the first of least cost; so of two that cost the same the one that has 0 where they first
-- differ, from the newest bit back
unfoldable pub least_path : Rate → (ℕ → Bool) → ℕ → List Bool
least_path rate read n = first_least (path_cost rate read) (replicate n false) (all_paths n)

-- decided bit b: bit b of the least path over the first b + 128 steps
abbrev pub decided_bit : Rate → (ℕ → Bool) → ℕ → Bool
decided_bit rate read b = path_bit (least_path rate read (b + 128)) b

-- whether a path comes before another or is it, read from the newest bit back, 0 before 1
abbrev pub no_later : List Bool → List Bool → Bool
no_later [] q = true
no_later (x ∷ p) [] = false
no_later (false ∷ p) (false ∷ q) = no_later p q
no_later (true ∷ p) (true ∷ q) = no_later p q
no_later (false ∷ p) (true ∷ q) = true
no_later (true ∷ p) (false ∷ q) = false

-- a path costs less than another, or as much and is no later
abbrev pub IsBetter : (List Bool → ℕ) → List Bool → List Bool → Type 0
IsBetter cost p q = (cost p < cost q) ⊎ ((cost p ≡ cost q) × IsTrue (no_later p q))

-- a path over n steps is better than all of them
pub record IsLeast (cost : List Bool → ℕ) (n : ℕ) (path : List Bool) : Type 0 where
  pub long : length path ≡ n
  pub least : (other : List Bool) → length other ≡ n → IsBetter cost path other
