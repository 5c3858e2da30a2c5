use Rattle.std.proofs.Common.{◌≡◌, ◌+◌, Bool, ◌*◌, ℕ, List, true, Some}
use Rattle.edge_io.specs.declared.shelf.Seat.TheVariants as seats
use Rattle.seg_receiver.specs.CellStream.{FrameCells}
use Rattle.seg_receiver.specs.FrameReading.{ShowsFrame}
use Rattle.isdbt_base.specs.declared.kinds.Mode.{Mode}
use Rattle.isdbt_base.specs.declared.kinds.Guard.{Guard}
use Rattle.isdbt_base.specs.Parameters.{Parameters}
use Rattle.seg_receiver.specs.EpochReceiver.{mode_of, segments_of, symbols_of, IsReceiverOf, StandsFor}
use Rattle.seg_receiver.proofs.FrameParts.{Holds}
use Rattle.seg_receiver.proofs.feeding.feed_read.Given as goal

abbrev pub invariant-loop-k : goal.invariant-loop-k
invariant-loop-k g l = record {
  symbols : symbols_of l.receiver ≡ l.k;
  mode : mode_of l.receiver ≡ mode_of l.initial.receiver;
  segments : segments_of l.receiver ≡ segments_of l.initial.receiver;
  receiver_kept : (partial : Bool) (m : Mode) (g : Guard) (s : Parameters) → IsReceiverOf partial m g s l.initial.receiver → IsReceiverOf partial m g s l.receiver;
  is_open : g.H.Shelf.is_open l.shelf seats.In ≡ true;
  still_open : g.H.Shelf.is_open l.shelf ≡ g.H.Shelf.is_open l.initial.shelf;
  kept : g.H.Shelf.faults l.shelf ≡ g.H.Shelf.faults l.initial.shelf;
  told : (rest : List ℕ) → g.H.Shelf.left l.initial.shelf seats.In ≡ Some rest → Holds l.frame rest (g.H.Shelf.left l.shelf seats.In) (l.k * l.size);
  stands : (rest : List ℕ) → g.H.Shelf.left l.initial.shelf seats.In ≡ Some rest → (cell : FrameCells) (start h : ℕ) → StandsFor l.initial.receiver cell start h → ShowsFrame l.fn.mode cell (start + h) rest → StandsFor l.receiver cell start h;
}
