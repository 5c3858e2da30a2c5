-- What an answer of the remultiplexer says of the inputs, of what was written and of what was taken: it is a command over several inputs.
use Rattle.std.specs.Prelude.{◌≡◌, ℕ, ◌+◌, ◌*◌, ◌≤◌, ◌<◌, ◌⊎◌, List, [], length, drop, Some, None, Ok, Err}
use Rattle.std.specs.declared.option.Option.{Option}
use Rattle.std.specs.declared.result.Result.{Result}
use Rattle.isdbt_base.specs.declared.kinds.Layer.{Layer}
use Rattle.isdbt_base.specs.declared.kinds.Layer.TheVariants.{A, B, C}
use Rattle.isdbt_base.specs.Plans.{Schedule, at_frame}
use Rattle.isdbt_base.specs.Epochs.{last_start, begins_later}
use Rattle.edge_io.specs.declared.shelf.Seat.{Seat}
use Rattle.edge_io.specs.Causes.{Cause}
use Rattle.edge_io.specs.FrameAnswers.{FaultKind, frame_refused, read_failed, write_failed, no_memory, FrameCommand, Ended, Account, FaultAnswer, AnswerCause}
use Rattle.remux_core.specs.declared.fault.RemuxFault.{RemuxFault}
use Rattle.remux_core.specs.declared.fault.RemuxFault.TheVariants.{ReadFault, WriteFault, NoMemory}
use Rattle.remux_core.specs.Multiplex.{filled, placed_before, packet_count, frame_count, frame_delay, written_frame}
use Rattle.remux_core.specs.Frames.{packets_of}
use Rattle.remux_core.specs.Refusals.{seat_of, refusal, is_there}
use Rattle.remux_core.specs.Parts.{IsGood}

-- ---- inputs

-- a layer is used: all settings of a plan use the same layers
abbrev pub IsUsed : Schedule → Layer → Type 0
IsUsed p x = 0 < packets_of p.first x

-- so many bytes of each used layer's input were taken from its seat
abbrev pub Took : Schedule → (Seat → Option (List ℕ)) → (Layer → List ℕ) → (Layer → ℕ) → Type 0
Took p left input n = (x : Layer) → IsUsed p x → left (seat_of x) ≡ Some (drop (n x) (input x))

-- the seats of the used layers have these inputs, and unused layers have none
pub record Tells (p : Schedule) (left : Seat → Option (List ℕ)) (input : Layer → List ℕ) : Type 0 where
  pub used : (x : Layer) → IsUsed p x → left (seat_of x) ≡ Some (input x)
  pub unused : (x : Layer) → packets_of p.first x ≡ 0 → input x ≡ []

-- the bytes of a layer's packets in the frames before a frame
abbrev pub bytes_before : Schedule → ℕ → Layer → ℕ
bytes_before p f x = 188 * placed_before p x f

-- layers are read in this order
abbrev pub place_of : Layer → ℕ
place_of A = 0
place_of B = 1
place_of C = 2

-- ---- answers

-- of what kind a fault is
abbrev pub remux_kind : RemuxFault → FaultKind
remux_kind (ReadFault seat) = read_failed seat
remux_kind WriteFault = write_failed
remux_kind NoMemory = no_memory
remux_kind fault = frame_refused

-- the remultiplexing of inputs by a plan, with a limit on frames; memory is asked for before the first read, and where a later epoch opens, before its first frame is read
abbrev pub remux_command : Schedule → (Layer → List ℕ) → ℕ → FrameCommand RemuxFault
remux_command p input limit = record { refusal = refusal p input limit; is_there = is_there p input; frame = written_frame p input; opens = begins_later p; ahead = 0 }

-- no byte from a frame on was taken
pub record TookAtMost (p : Schedule) (left : Seat → Option (List ℕ)) (input : Layer → List ℕ) (f : ℕ) : Type 0 where
  pub taken : Layer → ℕ
  pub left_is : Took p left input taken
  pub most : (x : Layer) → IsUsed p x → taken x ≤ bytes_before p f x

-- a read stopped in a frame: fewer bytes of this layer were taken than the frame wants, all that the frame wants of the layers before it, and nothing that it wants of those behind it
pub record ReadStopped (p : Schedule) (input : Layer → List ℕ) (f : ℕ) (left : Seat → Option (List ℕ)) (seat : Seat) : Type 0 where
  pub layer : Layer
  pub seat_is : seat ≡ seat_of layer
  pub taken : ℕ
  pub within : taken ≤ length (input layer)
  pub from : bytes_before p f layer ≤ taken
  pub below : taken < bytes_before p (f + 1) layer
  pub left_is : left (seat_of layer) ≡ Some (drop taken (input layer))
  pub earlier : (x : Layer) → IsUsed p x → place_of x < place_of layer → left (seat_of x) ≡ Some (drop (bytes_before p (f + 1) x) (input x))
  pub later : (x : Layer) → IsUsed p x → place_of layer < place_of x → left (seat_of x) ≡ Some (drop (bytes_before p f x) (input x))

-- a read stopped where the last epoch begins at the limit, and each seat that goes on is asked for one byte more: those before this one have nothing left, and no byte past the limit was taken
pub record AskStopped (p : Schedule) (input : Layer → List ℕ) (limit : ℕ) (left : Seat → Option (List ℕ)) (seat : Seat) : Type 0 where
  pub begins : last_start p ≡ limit
  pub layer : Layer
  pub seat_is : seat ≡ seat_of layer
  pub left_is : Took p left input (bytes_before p limit)
  pub earlier : (x : Layer) → IsUsed p x → place_of x < place_of layer → left (seat_of x) ≡ Some []

-- how far the inputs were taken
abbrev pub remux_account : Schedule → (Layer → List ℕ) → ℕ → (Seat → Option (List ℕ)) → Account
remux_account p input limit left = record {
  took = λ f. Took p left input (bytes_before p f);
  at_most = TookAtMost p left input;
  untouched = Tells p left input;
  stopped = λ f seat. ((f < limit) × ReadStopped p input f left seat) ⊎ ((f ≡ limit) × AskStopped p input limit left seat);
}

-- frame f places packet i of a layer's input
abbrev pub IsPlacedIn : Schedule → Layer → ℕ → ℕ → Type 0
IsPlacedIn p x i f = (placed_before p x f ≤ i) × (i < placed_before p x f + filled p x f)

-- packet i of a layer's input is placed in one frame, and the frame in which a receiver gives it out is one of the first m too, and of the same epoch
pub record HasPlace (p : Schedule) (x : Layer) (i m : ℕ) : Type 0 where
  pub frame : ℕ
  pub placed : IsPlacedIn p x i frame
  pub only : (other : ℕ) → IsPlacedIn p x i other → other ≡ frame
  pub given_out : frame + frame_delay p frame x < m
  pub same_epoch : (at_frame p (frame + frame_delay p frame x)).start ≡ (at_frame p frame).start

-- the command ended with all frames of the plan and the inputs: each input has whole packets with their sync bytes, and nothing of it is left
pub record Finished (p : Schedule) (input : Layer → List ℕ) (limit m : ℕ) (before after : Option (List ℕ)) (left : Seat → Option (List ℕ)) : Type 0 where
  pub ended : Ended (remux_command p input limit) m None before after
  pub count : m ≡ frame_count p (packet_count input)
  pub good : (x : Layer) → IsGood (input x)
  pub places : (x : Layer) (i : ℕ) → i < packet_count input x → HasPlace p x i m
  pub left_is : (x : Layer) → IsUsed p x → left (seat_of x) ≡ Some []

-- what each answer says
abbrev pub RemuxAnswer : Schedule → (Layer → List ℕ) → ℕ → Option (List ℕ) → Option (List ℕ) → (Seat → Option (List ℕ)) → Result ℕ RemuxFault → Type 0
RemuxAnswer p input limit before after left (Ok m) = Finished p input limit m before after left
RemuxAnswer p input limit before after left (Err fault) = FaultAnswer (remux_command p input limit) (remux_account p input limit left) before after fault (remux_kind fault)

-- a seat is that of a used layer
abbrev pub IsInputSeat : Schedule → Seat → Type 0
IsInputSeat p seat = (x : Layer) × IsUsed p x × (seat ≡ seat_of x)

-- when each answer may come
abbrev pub RemuxCause : Schedule → (Cause → ℕ) → (Cause → ℕ) → ℕ → ℕ → Result ℕ RemuxFault → Type 0
RemuxCause p shelf shelf' sink sink' result = AnswerCause remux_kind (IsInputSeat p) shelf shelf' sink sink' result
