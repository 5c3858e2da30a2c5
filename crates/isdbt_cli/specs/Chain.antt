-- The three commands one after another, from the layers' inputs to what is delivered.
use Rattle.std.specs.Prelude.{◌≡◌, ℕ, ◌+◌, ◌-◌, ◌<◌, ◌≤◌, Bool, true, false, if◌then◌else◌, List, None}
use Rattle.std.specs.declared.option.Option.{Option}
use Rattle.isdbt_base.specs.declared.kinds.Layer.{Layer}
use Rattle.isdbt_base.specs.declared.stream.Writing.{Writing}
use Rattle.isdbt_base.specs.declared.stream.Form.{Form}
use Rattle.isdbt_base.specs.declared.stream.Form.TheVariants.{V1, V2}
use Rattle.isdbt_base.specs.declared.stream.Reading.{Reading}
use Rattle.isdbt_base.specs.Plans.{Schedule, at_frame}
use Rattle.isdbt_base.specs.Frames.{FramePackets}
use Rattle.isdbt_base.specs.Outcome.{product, IsOutcome}
use Rattle.ts_packet.specs.Packets.{piece}
use Rattle.edge_io.specs.Known.{append_known}
use Rattle.remux_core.specs.Multiplex.{placed_before, multiplexed, packet_count, frame_delay, written_frame}
use Rattle.remux_core.specs.Answers.{IsPlacedIn}
use Rattle.coder_core.specs.SentCells.{sent_frame}
use Rattle.coder_core.specs.InputFrames.{first_head}
use Rattle.coder_core.specs.CodeRefusals.{code_refusal, is_there, frames_from, coded_frame}
use Rattle.seg_receiver.specs.Aims.{aim_of}
use Rattle.seg_receiver.specs.CellStream.{View, view_of, writing_of}
use Rattle.seg_receiver.specs.ReceiveAnswers.{given_frame}
use Rattle.seg_receiver.specs.ReceiveRefusals.{receive_is_there, receive_refusal}
use Rattle.seg_receiver.specs.Delivered.{CanCarry, CanCarryPartial, ArePackets, HaveWords, AreRestorable, IsNear, IsNearPartial, IsDelivered, delivered, delivered_partial}
use Rattle.isdbt_cli.specs.declared.fault.Outcome.{Outcome}
use Rattle.isdbt_cli.specs.declared.fault.Outcome.TheVariants.{Done, Fault}
use Rattle.isdbt_cli.specs.declared.fault.RunFault.TheVariants.{NoMemory}
use Rattle.isdbt_cli.specs.FrameLimit.{frame_limit}

-- what remux writes for the first so many frames of a plan and inputs
abbrev pub written_stream : Schedule → (Layer → List ℕ) → ℕ → List ℕ
written_stream p input count = product (written_frame p input) count

-- done with so many frames, of which just these bytes were written, or no memory
abbrev pub IsDoneWith : ℕ → List ℕ → Option (List ℕ) → Option (List ℕ) → Outcome → Type 0
IsDoneWith count bytes before after (Done m) = (m ≡ count) × (after ≡ append_known before bytes)
IsDoneWith count bytes before after (Fault NoMemory) = Unit {0}
IsDoneWith count bytes before after (Fault fault) = ⊥

-- ---- in full and with partial reception

-- a stream of a version can carry a plan's first frames for a reception
abbrev pub CanCarryFor : Bool → Form → Schedule → ℕ → Type 0
CanCarryFor false form p count = CanCarry form p count
CanCarryFor true form p count = CanCarryPartial form p count

-- partial reception wants the flag in the setting of each of the first frames
abbrev pub HasFlags : Bool → Schedule → ℕ → Type 0
HasFlags partial p count = (f : ℕ) → f < count → partial ≡ true → (at_frame p f).setting.partial ≡ true

-- a view is near the cells of a plan for a reception
abbrev pub IsNearFor : Bool → View → Schedule → FramePackets → ℕ → Type 0
IsNearFor false v p frames count = IsNear v p frames count
IsNearFor true v p frames count = IsNearPartial v p frames count

-- each word of a view can be restored to that of a plan, and with the plan's words the view is near its cells for a reception
abbrev pub IsRestorableFor : Bool → View → Schedule → FramePackets → ℕ → Type 0
IsRestorableFor partial v p frames count = AreRestorable v p count × (HaveWords v p count → IsNearFor partial v p frames count)

-- what is received of the first so many frames of a view, and what is delivered of those of a plan
abbrev pub received_for : Bool → View → ℕ → List ℕ
received_for partial v m = product (given_frame v (aim_of partial)) m

abbrev pub delivered_for : Bool → Schedule → FramePackets → ℕ → List ℕ
delivered_for false p frames m = delivered p frames m
delivered_for true p frames m = delivered_partial p frames m

-- a view is received as the delivered packets of a plan's frames, in full or with partial reception: all are there and none is refused, and each front part of them is that of the delivered stream
pub record IsReceivedAs (partial : Bool) (v : View) (p : Schedule) (frames : FramePackets) (count : ℕ) : Type 0 where
  pub outcome : IsOutcome (receive_refusal v (aim_of partial) frame_limit) (receive_is_there v) count None
  pub product : (m : ℕ) → m ≤ count → received_for partial v m ≡ delivered_for partial p frames m

-- the version of the stream that a coding writes: in version 1 all frames are of the mode and the guard interval of the plan's first
abbrev pub form_of : Writing → Schedule → Form
form_of how p = if how.v2 then V2 else V1 p.first.mode p.first.guard

-- the cells of the first so many frames of an input were written, and they are near a plan and the packets that are found in the input, which are packets of bytes, with words corrected or not
pub record WroteNear (how : Writing) (p : Schedule) (input : List ℕ) (count : ℕ) (before after : Option (List ℕ)) : Type 0 where
  pub packets : ArePackets p (frames_from p input (first_head input)) count
  pub near : (fix : Bool) → IsNear (view_of (record { form = form_of how p; fix = fix }) (product (coded_frame how p input) count)) p (frames_from p input (first_head input)) count
  pub written : after ≡ append_known before (product (coded_frame how p input) count)

-- code finds all frames of what remux writes, and refuses none, also above the last; what it writes are the heads and the cells of the plan and the multiplex of the inputs, and it is near them; the packets of the multiplex are packets of bytes, and what is coded is received as what is delivered of them, with partial reception too where each setting has the flag; and each packet of an input that a frame of the multiplex places is delivered at that place of its layer, as many frames later as the layer's delay
pub record IsChain (p : Schedule) (input : Layer → List ℕ) (how : Reading) (count : ℕ) : Type 0 where
  pub coded : IsOutcome (code_refusal p (written_stream p input count) frame_limit) (is_there p (written_stream p input count)) count None
  pub free : (f : ℕ) → code_refusal p (written_stream p input count) frame_limit f ≡ None
  pub cells : product (coded_frame (writing_of how.form) p (written_stream p input count)) count ≡ product (sent_frame (writing_of how.form) p (multiplexed p input)) count
  pub near : IsNear (view_of how (product (coded_frame (writing_of how.form) p (written_stream p input count)) count)) p (multiplexed p input) count
  pub packets : ArePackets p (multiplexed p input) count
  pub received : (partial : Bool) → HasFlags partial p count → IsReceivedAs partial (view_of how (product (coded_frame (writing_of how.form) p (written_stream p input count)) count)) p (multiplexed p input) count
  pub places : (x : Layer) (i f : ℕ) → i < packet_count input x → IsPlacedIn p x i f → IsDelivered p (multiplexed p input) x (f + frame_delay p f x) (i - placed_before p x f) (piece 188 (input x) i)
