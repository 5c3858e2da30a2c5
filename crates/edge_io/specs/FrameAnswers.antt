-- What an answer of a command says that works frame by frame, whichever command it is: of what was written, and of how far its inputs were taken.
use Rattle.std.specs.Prelude.{◌≡◌, ℕ, ◌+◌, ◌≤◌, ◌<◌, ◌⊎◌, Bool, true, List, [], ◌++◌, length, take, drop, Some, None, Ok, Err}
use Rattle.std.specs.declared.option.Option.{Option}
use Rattle.std.specs.declared.result.Result.{Result}
use Rattle.isdbt_base.specs.Outcome.{ArePassed, IsOutcome, product}
use Rattle.edge_io.specs.declared.shelf.Seat.{Seat}
use Rattle.edge_io.specs.declared.shelf.Seat.TheVariants as seats
use Rattle.edge_io.specs.Known.{append_known, ReachesRoom}
use Rattle.edge_io.specs.Causes.{Rose, Cause, Reading}

-- what becomes of a command at a fault: a frame was refused, a read of a seat failed, a write failed, or memory ran out
pub data FaultKind : Type 0 where
  frame_refused : FaultKind
  read_failed : Seat → FaultKind
  write_failed : FaultKind
  no_memory : FaultKind

-- ---- frames

-- a command, frame by frame: why a frame is refused, whether it is there, what is written of it, at which frames an epoch opens, for which memory is asked, and how many frames of that epoch are taken by then
pub record FrameCommand (F : Type 0) : Type 0 where
  pub refusal : ℕ → Option F
  pub is_there : ℕ → Bool
  pub frame : ℕ → List ℕ
  pub opens : ℕ → Bool
  pub ahead : ℕ

-- the first m frames are there and not refused
abbrev pub Passed : {F : Type 0} → FrameCommand F → ℕ → Type 0
Passed c m = ArePassed c.refusal c.is_there m

-- the first m frames were written behind what was there before
abbrev pub Wrote : {F : Type 0} → FrameCommand F → ℕ → Option (List ℕ) → Option (List ℕ) → Type 0
Wrote c m before after = after ≡ append_known before (product c.frame m)

-- the command ended with m frames, which were written, and with this refusal of the next, if any
pub record Ended {F : Type 0} (c : FrameCommand F) (m : ℕ) (fault : Option F) (before after : Option (List ℕ)) : Type 0 where
  pub outcome : IsOutcome c.refusal c.is_there m fault
  pub written : Wrote c m before after

-- ---- answers

-- what is said of the inputs: that just the bytes of the frames before one were taken, or no byte past them; that none was; and what stands where a read of a seat failed
pub record Account : Type 1 where
  pub took : ℕ → Type 0
  pub at_most : ℕ → Type 0
  pub untouched : Type 0
  pub stopped : ℕ → Seat → Type 0

-- a frame was refused: those before it were written, and nothing past it was taken
pub record Refused {F : Type 0} (c : FrameCommand F) (at_most : ℕ → Type 0) (fault : F) (before after : Option (List ℕ)) : Type 0 where
  pub frame : ℕ
  pub ended : Ended c frame (Some fault) before after
  pub account : at_most (frame + 1)

-- a read of a seat failed in a frame: those before it were written
pub record ReadFailed {F : Type 0} (c : FrameCommand F) (stopped : ℕ → Seat → Type 0) (seat : Seat) (before after : Option (List ℕ)) : Type 0 where
  pub frame : ℕ
  pub passed : Passed c frame
  pub written : Wrote c frame before after
  pub account : stopped frame seat

-- a write failed in a frame that is there and not refused: the frames before it and its first bytes were written, and nothing past it was taken
pub record WriteFailed {F : Type 0} (c : FrameCommand F) (took : ℕ → Type 0) (before after : Option (List ℕ)) : Type 0 where
  pub frame : ℕ
  pub sent : ℕ
  pub passed : Passed c (frame + 1)
  pub short : sent < length (c.frame frame)
  pub written : after ≡ append_known before (product c.frame frame ++ take sent (c.frame frame))
  pub account : took (frame + 1)

-- an epoch opens at a frame, and there is no memory for it: the frames before it were written
pub record WantsMemory {F : Type 0} (c : FrameCommand F) (took : ℕ → Type 0) (before after : Option (List ℕ)) : Type 0 where
  pub frame : ℕ
  pub opens : c.opens frame ≡ true
  pub passed : Passed c (frame + c.ahead)
  pub written : Wrote c frame before after
  pub account : took (frame + c.ahead)

-- what a fault of each kind says; want of memory comes at the start, with nothing taken and nothing written, or where an epoch opens
abbrev pub FaultAnswer : {F : Type 0} → FrameCommand F → Account → Option (List ℕ) → Option (List ℕ) → F → FaultKind → Type 0
FaultAnswer c a before after fault frame_refused = Refused c a.at_most fault before after
FaultAnswer c a before after fault (read_failed seat) = ReadFailed c a.stopped seat before after
FaultAnswer c a before after fault write_failed = WriteFailed c a.took before after
FaultAnswer c a before after fault no_memory = ((after ≡ before) × a.untouched) ⊎ WantsMemory c a.took before after

-- ---- commands with one input

-- a command over one input, with a limit on frames: how many bytes of the input stand before each frame
pub record LoneCommand (F : Type 0) : Type 0 where
  pub frames : FrameCommand F
  pub input : List ℕ
  pub limit : ℕ
  pub starts : ℕ → ℕ

-- all bytes before this frame were taken, and no others
abbrev pub Took : {F : Type 0} → LoneCommand F → Option (List ℕ) → ℕ → Type 0
Took c left f = left ≡ Some (drop (c.starts f) c.input)

-- no byte from this frame on was taken
pub record TookAtMost {F : Type 0} (c : LoneCommand F) (left : Option (List ℕ)) (f : ℕ) : Type 0 where
  pub taken : ℕ
  pub left_is : left ≡ Some (drop taken c.input)
  pub most : taken ≤ c.starts f

-- a read stopped in a frame: not all bytes of it were taken, and nothing past the limit of frames
pub record Stopped {F : Type 0} (c : LoneCommand F) (left : Option (List ℕ)) (f : ℕ) : Type 0 where
  pub taken : ℕ
  pub left_is : left ≡ Some (drop taken c.input)
  pub from : c.starts f ≤ taken
  pub below : taken < c.starts (f + 1)
  pub most : taken ≤ c.starts c.limit

abbrev pub lone_account : {F : Type 0} → LoneCommand F → Option (List ℕ) → Account
lone_account c left = record { took = Took c left; at_most = TookAtMost c left; untouched = left ≡ Some c.input; stopped = λ f seat. Stopped c left f }

-- the command ended with all frames of the input, of which nothing is left
pub record Finished {F : Type 0} (c : LoneCommand F) (m : ℕ) (before after left : Option (List ℕ)) : Type 0 where
  pub ended : Ended c.frames m None before after
  pub left_is : left ≡ Some []

-- what each answer says, by what was written before and after and what is left of the input
abbrev pub LoneAnswer : {F : Type 0} → (F → FaultKind) → LoneCommand F → Option (List ℕ) → Option (List ℕ) → Option (List ℕ) → Result ℕ F → Type 0
LoneAnswer kind c before after left (Ok m) = Finished c m before after left
LoneAnswer kind c before after left (Err fault) = FaultAnswer c.frames (lone_account c left) before after fault (kind fault)

-- ---- causes

-- when a fault of each kind may be answered: a fault of the outside where its count rose, and no other where one rose
abbrev pub FaultCause : (Seat → Type 0) → (Cause → ℕ) → (Cause → ℕ) → ℕ → ℕ → FaultKind → Type 0
FaultCause reads shelf shelf' sink sink' frame_refused = (shelf' ≡ shelf) × (sink' ≡ sink)
FaultCause reads shelf shelf' sink sink' (read_failed seat) = reads seat × Rose (shelf (Reading seat)) (shelf' (Reading seat)) × (sink' ≡ sink)
FaultCause reads shelf shelf' sink sink' write_failed = (shelf' ≡ shelf) × Rose sink sink'
FaultCause reads shelf shelf' sink sink' no_memory = (shelf' ≡ shelf) × (sink' ≡ sink)

-- when an answer of a command may come that reads these seats
abbrev pub AnswerCause : {X F : Type 0} → (F → FaultKind) → (Seat → Type 0) → (Cause → ℕ) → (Cause → ℕ) → ℕ → ℕ → Result X F → Type 0
AnswerCause kind reads shelf shelf' sink sink' (Ok x) = (shelf' ≡ shelf) × (sink' ≡ sink)
AnswerCause kind reads shelf shelf' sink sink' (Err fault) = FaultCause reads shelf shelf' sink sink' (kind fault)

-- when an answer of a command with a lone input may come
abbrev pub LoneCause : {X F : Type 0} → (F → FaultKind) → (Cause → ℕ) → (Cause → ℕ) → ℕ → ℕ → Result X F → Type 0
LoneCause kind shelf shelf' sink sink' result = AnswerCause kind (λ seat. seat ≡ seats.In) shelf shelf' sink sink' result

-- when a call may end so that reads a lone input, and neither writes nor asks for memory
abbrev pub ReadingFault : (Cause → ℕ) → (Cause → ℕ) → FaultKind → Type 0
ReadingFault shelf shelf' frame_refused = shelf' ≡ shelf
ReadingFault shelf shelf' (read_failed seat) = (seat ≡ seats.In) × Rose (shelf (Reading seat)) (shelf' (Reading seat))
ReadingFault shelf shelf' write_failed = ⊥
ReadingFault shelf shelf' no_memory = ⊥

abbrev pub ReadingCause : {X F : Type 0} → (F → FaultKind) → (Cause → ℕ) → (Cause → ℕ) → Result X F → Type 0
ReadingCause kind shelf shelf' (Ok x) = shelf' ≡ shelf
ReadingCause kind shelf shelf' (Err fault) = ReadingFault shelf shelf' (kind fault)

-- a write fault comes only where what was written reaches the sink's room
abbrev pub FaultRoom : Option ℕ → Option (List ℕ) → FaultKind → Type 0
FaultRoom room after write_failed = ReachesRoom room after
FaultRoom room after frame_refused = Unit {0}
FaultRoom room after (read_failed seat) = Unit {0}
FaultRoom room after no_memory = Unit {0}

abbrev pub AnswerRoom : {X F : Type 0} → (F → FaultKind) → Option ℕ → Option (List ℕ) → Result X F → Type 0
AnswerRoom kind room after (Ok x) = Unit {0}
AnswerRoom kind room after (Err fault) = FaultRoom room after (kind fault)
