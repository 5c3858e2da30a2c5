-- The outcome of a command, frame by frame.
use Rattle.std.specs.Prelude.{◌≡◌, ℕ, ◌<◌, Bool, true, false, Option, Some, None, List, [], ◌∷◌, flat_map}
use Rattle.std.specs.List.{range_with_len}

-- the first of several that is there
abbrev pub first_some : {X : Type 0} → List (Option X) → Option X
first_some [] = None
first_some (None ∷ xs) = first_some xs
first_some (Some x ∷ xs) = Some x

-- the first m frames are there, and none of them is refused
abbrev pub ArePassed : {F : Type 0} → (ℕ → Option F) → (ℕ → Bool) → ℕ → Type 0
ArePassed refusal is_there m = (f : ℕ) → f < m → (refusal f ≡ None) × (is_there f ≡ true)

-- the first m frames are passed; then frame m is refused so, or, with no refusal, frame m is not there
pub record IsOutcome {F : Type 0} (refusal : ℕ → Option F) (is_there : ℕ → Bool) (m : ℕ) (fault : Option F) : Type 0 where
  pub before : ArePassed refusal is_there m
  pub at : refusal m ≡ fault
  pub done : fault ≡ None → is_there m ≡ false

-- what is written for the first m frames
unfoldable pub product : (ℕ → List ℕ) → ℕ → List ℕ
product frame m = flat_map frame (range_with_len 0 m)
