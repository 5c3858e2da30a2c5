use Rattle.std.proofs.Common.{◌≡◌, ◌-◌, ◌≤◌, ℕ, List, true, Some}
use Rattle.edge_io.specs.declared.shelf.Seat.TheVariants as seats
use Rattle.seg_receiver.specs.Buffers.{HasRoom}
use Rattle.seg_receiver.specs.Aims.{aim_of}
use Rattle.seg_receiver.specs.CellStream.{view_of}
use Rattle.seg_receiver.specs.EpochAnswers.{AtEpoch}
use Rattle.seg_receiver.proofs.receiving.receive_epochs.Given as goal

abbrev pub invariant-loop-start : goal.invariant-loop-start
invariant-loop-start g l = record {
  most : l.start.frame ≤ l.reception.limit;
  room_kept : HasRoom l.reception.how.form l.buffers;
  is_open : g.H.Shelf.is_open l.shelf seats.In ≡ true;
  still_open : g.H.Shelf.is_open l.shelf ≡ g.H.Shelf.is_open l.initial.shelf;
  shelf_kept : g.H.Shelf.faults l.shelf ≡ g.H.Shelf.faults l.initial.shelf;
  sink_kept : g.K.Sink.faults l.sink ≡ g.K.Sink.faults l.initial.sink;
  sink_room : g.K.Sink.room l.sink ≡ g.K.Sink.room l.initial.sink;
  told : (stream : List ℕ) → g.H.Shelf.left l.initial.shelf seats.In ≡ Some stream
      → AtEpoch (view_of l.reception.how stream) (aim_of l.reception.partial) stream l.reception.limit l.start.frame l.start.before (g.H.Shelf.left l.shelf seats.In) (g.K.Sink.written l.initial.sink) (g.K.Sink.written l.sink);
}

abbrev pub decreases-loop-start : goal.decreases-loop-start
decreases-loop-start g l = l.reception.limit - l.start.frame
