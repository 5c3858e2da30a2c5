use Rattle.std.proofs.Common.{◌≡◌, ℕ, List, true, Some, length}
use Rattle.edge_io.specs.declared.shelf.Seat.TheVariants as seats
use Rattle.coder_core.specs.SentCells.{frame_size}
use Rattle.seg_receiver.specs.Buffers.{largest_mode}
use Rattle.seg_receiver.specs.CellStream.{view_of}
use Rattle.seg_receiver.proofs.ListingProgress.{Listed}
use Rattle.seg_receiver.proofs.showing.show_frames.Given as goal

abbrev pub invariant-loop-number : goal.invariant-loop-number
invariant-loop-number g l = record {
  room_for : length l.buffer ≡ frame_size (largest_mode l.how.form);
  is_open : g.H.Shelf.is_open l.shelf seats.In ≡ true;
  still_open : g.H.Shelf.is_open l.shelf ≡ g.H.Shelf.is_open l.initial.shelf;
  shelf_kept : g.H.Shelf.faults l.shelf ≡ g.H.Shelf.faults l.initial.shelf;
  sink_kept : g.K.Sink.faults l.sink ≡ g.K.Sink.faults l.initial.sink;
  sink_room : g.K.Sink.room l.sink ≡ g.K.Sink.room l.initial.sink;
  told : (stream : List ℕ) → g.H.Shelf.left l.initial.shelf seats.In ≡ Some stream
      → Listed (view_of l.how stream) stream l.limit l.number l.due l.last (g.H.Shelf.left l.shelf seats.In) (g.K.Sink.written l.initial.sink) (g.K.Sink.written l.sink);
}
