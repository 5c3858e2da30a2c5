-- When a call to the outside may fail.
use Rattle.std.specs.Prelude.{◌≡◌, ℕ, ◌+◌, ◌-◌, ◌^◌, ◌≤◌, min, List, Result, OnOk, OnErr}
use Rattle.edge_io.specs.declared.shelf.Seat.{Seat}

-- one more, and at the last value of 64 bits that value again
abbrev pub raised : ℕ → ℕ
raised count = min (count + 1) (2 ^ 64 - 1)

-- a count rose, or stands at its type's end
abbrev pub Rose : ℕ → ℕ → Type 0
Rose before now = raised before ≤ now

-- the count never falls, an error raises it, and a success leaves it
pub record HasCause {T E : Type 0} (before now : ℕ) (result : Result T E) : Type 0 where
  pub later : before ≤ now
  pub failed : OnErr result (Rose before now)
  pub kept : OnOk result (now ≡ before)

-- what the faults of a shelf are counted by: the seat and the name that were to be opened, or the seat that was read
pub data Cause : Type 0 where
  Opening : Seat → List ℕ → Cause
  Reading : Seat → Cause

-- no count falls, an error raises the count of its cause, and a success leaves all
pub record ShelfCause {T E : Type 0} (cause : Cause) (before now : Cause → ℕ) (result : Result T E) : Type 0 where
  pub later : (any : Cause) → before any ≤ now any
  pub failed : OnErr result (Rose (before cause) (now cause))
  pub kept : OnOk result (now ≡ before)

-- a count is one more after an error, and the same after a success
pub record Counts {T E : Type 0} (before now : ℕ) (result : Result T E) : Type 0 where
  pub failed : OnErr result (now ≡ raised before)
  pub kept : OnOk result (now ≡ before)
