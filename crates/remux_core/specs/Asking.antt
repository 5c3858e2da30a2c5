-- Whether an input goes on behind its first packets, and what one byte more that is asked for says of it.
use Rattle.std.specs.Prelude.{◌≡◌, ℕ, ◌+◌, ◌*◌, ◌≤◌, ◌<◌, Bool, true, false, List, [], length, drop, Some, Ok, Err}
use Rattle.std.specs.declared.option.Option.{Option}
use Rattle.std.specs.declared.result.Result.{Result}
use Rattle.edge_io.specs.declared.shelf.Seat.{Seat}
use Rattle.edge_io.specs.Causes.{Rose, Cause, Reading}
use Rattle.edge_io.specs.FrameAnswers.{FaultKind, frame_refused, read_failed, write_failed, no_memory}
use Rattle.remux_core.specs.declared.fault.RemuxFault.{RemuxFault}
use Rattle.remux_core.specs.declared.fault.RemuxFault.TheVariants.{TooLong}
use Rattle.remux_core.specs.Answers.{remux_kind}

-- behind the first so many packets an input either goes on, or has ended within them
pub record StandsAt (first : ℕ) (bytes : List ℕ) (ended : Bool) : Type 0 where
  pub goes_on : ended ≡ false → 188 * first ≤ length bytes
  pub done : ended ≡ true → length bytes ≤ 188 * first

-- nothing stands behind the first so many packets
pub record NoMore (first : ℕ) (bytes : List ℕ) (left : Option (List ℕ)) : Type 0 where
  pub short : length bytes ≤ 188 * first
  pub left_is : left ≡ Some []

-- the input goes on, and one byte more was taken
pub record OneMore (first : ℕ) (bytes : List ℕ) (left : Option (List ℕ)) (fault : RemuxFault) : Type 0 where
  pub fault_is : fault ≡ TooLong
  pub long : 188 * first < length bytes
  pub left_is : left ≡ Some (drop (188 * first + 1) bytes)

abbrev pub AskFault : ℕ → List ℕ → Seat → Option (List ℕ) → RemuxFault → FaultKind → Type 0
AskFault first bytes seat left fault frame_refused = OneMore first bytes left fault
AskFault first bytes seat left fault (read_failed failed) = (failed ≡ seat) × (left ≡ Some (drop (188 * first) bytes))
AskFault first bytes seat left fault write_failed = ⊥
AskFault first bytes seat left fault no_memory = ⊥

abbrev pub AskAnswer : ℕ → List ℕ → Seat → Option (List ℕ) → Result (Unit {0}) RemuxFault → Type 0
AskAnswer first bytes seat left (Ok u) = NoMore first bytes left
AskAnswer first bytes seat left (Err fault) = AskFault first bytes seat left fault (remux_kind fault)

-- a read fails only where its count rose
abbrev pub AskFaultCause : Seat → (Cause → ℕ) → (Cause → ℕ) → FaultKind → Type 0
AskFaultCause seat shelf shelf' frame_refused = shelf' ≡ shelf
AskFaultCause seat shelf shelf' (read_failed failed) = (failed ≡ seat) × Rose (shelf (Reading seat)) (shelf' (Reading seat))
AskFaultCause seat shelf shelf' write_failed = ⊥
AskFaultCause seat shelf shelf' no_memory = ⊥

abbrev pub AskCause : Seat → (Cause → ℕ) → (Cause → ℕ) → Result (Unit {0}) RemuxFault → Type 0
AskCause seat shelf shelf' (Ok u) = shelf' ≡ shelf
AskCause seat shelf shelf' (Err fault) = AskFaultCause seat shelf shelf' (remux_kind fault)
