-- What was read of the layers for a frame.
use Rattle.std.specs.Prelude.{◌≡◌, ℕ, ◌+◌, ◌-◌, ◌*◌, ◌≤◌, Bool, true, false, List, [], length, take, drop, min, vec_len, Some, None, Ok, Err}
use Rattle.std.specs.declared.option.Option.{Option}
use Rattle.std.specs.declared.result.Result.{Result}
use Rattle.isdbt_base.specs.declared.kinds.Layer.{Layer}
use Rattle.isdbt_base.specs.declared.kinds.Layer.TheVariants.{A, B, C}
use Rattle.isdbt_base.specs.Plans.{Schedule}
use Rattle.edge_io.specs.declared.shelf.Seat.{Seat}
use Rattle.edge_io.specs.declared.shelf.Seat.TheVariants as seats
use Rattle.edge_io.specs.Causes.{Rose, Cause, Reading}
use Rattle.edge_io.specs.FrameAnswers.{FaultKind, frame_refused, read_failed, write_failed, no_memory}
use Rattle.remux_core.specs.declared.fault.RemuxFault.{RemuxFault}
use Rattle.remux_core.specs.Multiplex.{filled, placed_before}
use Rattle.remux_core.specs.Parts.{IsGood}
use Rattle.remux_core.specs.Frames.{packets_of, most_packets}
use Rattle.remux_core.specs.Refusals.{seat_of, refusal}
use Rattle.remux_core.specs.Asking.{StandsAt}
use Rattle.remux_core.specs.Answers.{Took, bytes_before, ReadStopped, remux_kind}
use Rattle.remux_core.specs.declared.layer_input.LayerInput.{LayerInput}
use Rattle.remux_core.specs.declared.inputs.Inputs.{Inputs}

-- the bytes that t packets take behind the first so many packets
abbrev pub part_of : List ℕ → ℕ → ℕ → List ℕ
part_of bytes first t = take (188 * t) (drop (188 * first) bytes)

abbrev pub input_of : Inputs → Layer → LayerInput
input_of i A = i.a
input_of i B = i.b
input_of i C = i.c

-- the next t packets were read
pub record IsRead (first t : ℕ) (bytes : List ℕ) (input : LayerInput) : Type 0 where
  pub part : take input.count input.bytes.items ≡ part_of bytes first t
  pub count : input.count ≡ min (188 * t) (length bytes - 188 * first)
  pub next : StandsAt (first + t) bytes input.ended

-- the packets that the frame in work and those before it place
abbrev pub counted : LayerInput → ℕ
counted input = input.first + input.wanted

-- each input is read at its layer's seat
pub record HasSeats (i : Inputs) : Type 0 where
  pub a : i.a.seat ≡ seats.A
  pub b : i.b.seat ≡ seats.B
  pub c : i.c.seat ≡ seats.C

-- the inputs stand before frame f, with room for each frame's packets; a seat that is still read is open
pub record Stands (p : Schedule) (f : ℕ) (i : Inputs) (is_open : Seat → Bool) : Type 0 where
  pub seats : HasSeats i
  pub room : (x : Layer) → vec_len (input_of i x).bytes ≡ 188 * most_packets p x
  pub small : (x : Layer) → most_packets p x ≤ 3276
  pub unused : (x : Layer) → packets_of p.first x ≡ 0 → (input_of i x).ended ≡ true
  pub placed : (x : Layer) → counted (input_of i x) ≡ placed_before p x f
  pub listens : (x : Layer) → (input_of i x).ended ≡ false → is_open (seat_of x) ≡ true

-- the packets of the frames before frame f were read of these inputs; an unused layer has none
pub record IsReady (p : Schedule) (input : Layer → List ℕ) (f : ℕ) (i : Inputs) (left : Seat → Option (List ℕ)) : Type 0 where
  pub stands : (x : Layer) → StandsAt (placed_before p x f) (input x) (input_of i x).ended
  pub left_is : Took p left input (bytes_before p f)
  pub unused : (x : Layer) → packets_of p.first x ≡ 0 → ((input_of i x).ended ≡ true) × (input x ≡ [])

-- the bytes of frame f were read of each layer
pub record AreRead (p : Schedule) (input : Layer → List ℕ) (f : ℕ) (i : Inputs) (left : Seat → Option (List ℕ)) : Type 0 where
  pub each : (x : Layer) → IsRead (placed_before p x f) (filled p x f) (input x) (input_of i x)
  pub ready : IsReady p input (f + 1) i left

abbrev pub ReadAnswer : Schedule → (Layer → List ℕ) → ℕ → Inputs → (Seat → Option (List ℕ)) → Result (Unit {0}) Seat → Type 0
ReadAnswer p input f i left (Ok u) = AreRead p input f i left
ReadAnswer p input f i left (Err seat) = ReadStopped p input f left seat

-- a read fails only where its count rose, at an input that goes on
abbrev pub InputsCause : Inputs → (Cause → ℕ) → (Cause → ℕ) → Result (Unit {0}) Seat → Type 0
InputsCause i shelf shelf' (Ok u) = shelf' ≡ shelf
InputsCause i shelf shelf' (Err seat) = ((x : Layer) × ((input_of i x).ended ≡ false) × (seat ≡ seat_of x)) × Rose (shelf (Reading seat)) (shelf' (Reading seat))

-- ---- a frame that was read and checked

-- the packets that were read are good
abbrev pub AreGood : Inputs → Type 0
AreGood i = (x : Layer) → IsGood (take (input_of i x).count (input_of i x).bytes.items)

-- the packets of a frame were read, and it isn't refused for them
pub record FrameRead (p : Schedule) (input : Layer → List ℕ) (limit f : ℕ) (i : Inputs) (left : Seat → Option (List ℕ)) : Type 0 where
  pub read : AreRead p input f i left
  pub good : AreGood i
  pub fine : refusal p input limit f ≡ None

-- the packets of a frame were read, and it is refused
pub record FrameRefused (p : Schedule) (input : Layer → List ℕ) (limit f : ℕ) (left : Seat → Option (List ℕ)) (fault : RemuxFault) : Type 0 where
  pub left_is : Took p left input (bytes_before p (f + 1))
  pub why : refusal p input limit f ≡ Some fault

-- why the frame could not be read, or is refused
abbrev pub FrameFault : Schedule → (Layer → List ℕ) → ℕ → ℕ → (Seat → Option (List ℕ)) → RemuxFault → FaultKind → Type 0
FrameFault p input limit f left fault frame_refused = FrameRefused p input limit f left fault
FrameFault p input limit f left fault (read_failed seat) = ReadStopped p input f left seat
FrameFault p input limit f left fault write_failed = ⊥
FrameFault p input limit f left fault no_memory = ⊥

abbrev pub FrameAnswer : Schedule → (Layer → List ℕ) → ℕ → ℕ → Inputs → (Seat → Option (List ℕ)) → Result (Unit {0}) RemuxFault → Type 0
FrameAnswer p input limit f i left (Ok u) = FrameRead p input limit f i left
FrameAnswer p input limit f i left (Err fault) = FrameFault p input limit f left fault (remux_kind fault)
