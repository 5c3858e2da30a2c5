-- The receiver of an epoch: what its parts give out.
use Rattle.std.proofs.Common.{◌≡◌, ℕ, ◌+◌, ◌*◌, ◌≤◌, Bool, true, false, List, [], refl, ap, sym, ◌∙◌, arith}
use Rattle.std.specs.Prelude.{nat_le, slice_get}
use Rattle.isdbt_base.specs.declared.kinds.Mode.{Mode}
use Rattle.isdbt_base.specs.declared.kinds.Guard.{Guard}
use Rattle.isdbt_base.specs.LayerParameters.{LayerParameters}
use Rattle.isdbt_base.specs.Parameters.{Parameters, layer_of}
use Rattle.isdbt_base.specs.Numbers.{carriers, layer_delay}
use Rattle.ts_packet.specs.Packets.{null_packet}
use Rattle.bts_info.specs.Fields.{Tag}
use Rattle.frame_order.specs.OrderedFrame.{ordered_frame}
use Rattle.cell_map.specs.declared.cell.Cell.{Cell}
use Rattle.seg_receiver.specs.CellStream.{FrameCells, segment_cells}
use Rattle.seg_receiver.specs.Received.{setting_packet, partial_packets}
use Rattle.seg_receiver.specs.Receiver as full
use Rattle.seg_receiver.specs.Receiver.{IsSymbolOf}
use Rattle.seg_receiver.specs.PartialReceiver as part
use Rattle.seg_receiver.specs.PartialReceiver.{AreSegmentCells}
use Rattle.seg_receiver.specs.EpochReceiver.{mode_of, segments_of, IsReceiverOf, epoch_frame}
use Rattle.seg_receiver.specs.declared.receiver.Receiver.{Receiver}
use Rattle.seg_receiver.specs.declared.partial_receiver.PartialReceiver.{PartialReceiver}
use Rattle.seg_receiver.specs.declared.epoch_receiver.EpochReceiver.{EpochReceiver}
use Rattle.seg_receiver.specs.declared.epoch_receiver.EpochReceiver.TheVariants.{Full, Partial}

-- the cells of the first segment
pub one-segment : (mode : Mode) (cell : FrameCells) (f k : ℕ) (cells : List Cell) → IsSymbolOf 1 mode cell f k cells → AreSegmentCells mode (segment_cells cell) f k cells
one-segment mode cell f k cells is = record {
  each = λ carrier less. ap (slice_get cells) (let e : carrier ≡ 0 * carriers mode + carrier = omega arith in e) ∙ is.each 0 carrier (omega arith) less;
}

-- a frame of broadcast packets
pub full-frame : (partial : Bool) (mode : Mode) (guard : Guard) (s : Parameters) (r : Receiver) (cell : FrameCells) (start h : ℕ) (tag : Tag) → IsReceiverOf partial mode guard s (Full r)
    → ordered_frame (full.mode_of r) (full.guard_of r) (full.setting_of r) tag null_packet (λ x j. setting_packet (full.mode_of r) cell start (start + h) (full.setting_of r) x j (layer_of (full.setting_of r) x)) ≡ epoch_frame partial mode guard s cell start h tag
full-frame true mode guard s r cell start h tag is = absurd is
full-frame false mode guard s r cell start h tag is =
    ap (λ m. epoch_frame false m (full.guard_of r) (full.setting_of r) cell start h tag) is.0
    ∙ ap (λ g. epoch_frame false mode g (full.setting_of r) cell start h tag) is.1
    ∙ ap (λ u. epoch_frame false mode guard u cell start h tag) is.2

-- the packets of layer A
pub part-frame : (partial : Bool) (mode : Mode) (guard : Guard) (s : Parameters) (r : PartialReceiver) (cell : FrameCells) (start h : ℕ) (tag : Tag) → IsReceiverOf partial mode guard s (Partial r)
    → partial_packets (part.mode_of r) (part.layer_of r) (segment_cells cell) start h ≡ epoch_frame partial mode guard s cell start h tag
part-frame false mode guard s r cell start h tag is = absurd is
part-frame true mode guard s r cell start h tag is =
    ap (λ m. partial_packets m (part.layer_of r) (segment_cells cell) start h) is.0
    ∙ ap (λ l. partial_packets mode l (segment_cells cell) start h) is.1

-- none before the delay
pub none-before : (mode : Mode) (l : LayerParameters) (cell : ℕ → ℕ → ℕ → Cell) (start h : ℕ) → false ≡ nat_le (layer_delay mode l) h → [] ≡ partial_packets mode l cell start h
none-before mode l cell start h before = sym (rw (sym before) refl)

-- ---- what a receiver of an epoch is

pub mode-is : (partial : Bool) (mode : Mode) (guard : Guard) (s : Parameters) (r : EpochReceiver) → IsReceiverOf partial mode guard s r → mode_of r ≡ mode
mode-is false mode guard s (Full r) is = is.0
mode-is false mode guard s (Partial r) is = absurd is
mode-is true mode guard s (Full r) is = absurd is
mode-is true mode guard s (Partial r) is = is.0

pub segments-most : (r : EpochReceiver) → segments_of r ≤ 13
segments-most (Full r) = omega arith
segments-most (Partial r) = omega arith
