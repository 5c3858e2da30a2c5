-- The receiver of an epoch, in full or for partial reception.
use Rattle.std.specs.Prelude.{◌≡◌, ℕ, ◌+◌, ◌*◌, Bool, true, false, List}
use Rattle.isdbt_base.specs.declared.kinds.Mode.{Mode}
use Rattle.isdbt_base.specs.declared.kinds.Guard.{Guard}
use Rattle.isdbt_base.specs.Parameters.{Parameters, layer_of}
use Rattle.isdbt_base.specs.Numbers.{slots_per_frame}
use Rattle.ts_packet.specs.Packets.{null_packet}
use Rattle.bts_info.specs.Fields.{Tag}
use Rattle.frame_order.specs.OrderedFrame.{ordered_frame}
use Rattle.seg_receiver.specs.CellStream.{FrameCells, segment_cells}
use Rattle.seg_receiver.specs.Received.{setting_packet, partial_packets}
use Rattle.seg_receiver.specs.Receiver as full
use Rattle.seg_receiver.specs.PartialReceiver as part
use Rattle.seg_receiver.specs.declared.epoch_receiver.EpochReceiver.{EpochReceiver}
use Rattle.seg_receiver.specs.declared.epoch_receiver.EpochReceiver.TheVariants.{Full, Partial}

-- the mode of the epoch, the segments whose cells are taken, and the symbols since the last frame was given out
abbrev pub mode_of : EpochReceiver → Mode
mode_of (Full r) = full.mode_of r
mode_of (Partial r) = part.mode_of r

abbrev pub segments_of : EpochReceiver → ℕ
segments_of (Full r) = 13
segments_of (Partial r) = 1

abbrev pub symbols_of : EpochReceiver → ℕ
symbols_of (Full r) = full.symbols_of r
symbols_of (Partial r) = part.symbols_of r

-- bytes that a frame can have
abbrev pub frame_room : EpochReceiver → ℕ
frame_room (Full r) = 204 * slots_per_frame (full.mode_of r) (full.guard_of r)
frame_room (Partial r) = 188 * part.packets_of r

-- it is the receiver of an epoch of this mode, guard interval and setting, for partial reception or in full
abbrev pub IsReceiverOf : Bool → Mode → Guard → Parameters → EpochReceiver → Type 0
IsReceiverOf false mode guard s (Full r) = (full.mode_of r ≡ mode) × (full.guard_of r ≡ guard) × (full.setting_of r ≡ s)
IsReceiverOf true mode guard s (Partial r) = (part.mode_of r ≡ mode) × (part.layer_of r ≡ s.a)
IsReceiverOf false mode guard s (Partial r) = ⊥
IsReceiverOf true mode guard s (Full r) = ⊥

-- it is as it is after the first h frames of the epoch that begins at a frame, and the symbols of the next that were seen
abbrev pub StandsFor : EpochReceiver → FrameCells → ℕ → ℕ → Type 0
StandsFor (Full r) cell start h = full.StandsFor r cell start h
StandsFor (Partial r) cell start h = part.StandsFor r (segment_cells cell) start h

-- what is given out with frame h of an epoch, whose packets bear this tag where it is a frame of broadcast packets
abbrev pub epoch_frame : Bool → Mode → Guard → Parameters → FrameCells → ℕ → ℕ → Tag → List ℕ
epoch_frame false mode guard s cell start h tag = ordered_frame mode guard s tag null_packet (λ x j. setting_packet mode cell start (start + h) s x j (layer_of s x))
epoch_frame true mode guard s cell start h tag = partial_packets mode s.a (segment_cells cell) start h
