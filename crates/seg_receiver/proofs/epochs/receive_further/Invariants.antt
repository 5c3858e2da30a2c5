use Rattle.std.proofs.Common.{◌≡◌, ◌+◌, ◌<◌, ℕ, List, true}
use Rattle.std.specs.declared.option.Option.{Option}
use Rattle.edge_io.specs.declared.shelf.Seat.TheVariants as seats
use Rattle.seg_receiver.specs.Buffers.{HasRoom}
use Rattle.seg_receiver.specs.Aims.{aim_of}
use Rattle.seg_receiver.specs.CellStream.{view_of}
use Rattle.isdbt_base.specs.Parameters.{Parameters}
use Rattle.seg_receiver.specs.EpochReceiver.{symbols_of, IsReceiverOf, StandsFor}
use Rattle.seg_receiver.specs.EpochAnswers.{InEpoch}
use Rattle.seg_receiver.proofs.EpochProgress.{Going}
use Rattle.seg_receiver.proofs.epochs.receive_further.Given as goal

abbrev pub invariant-loop-number : goal.invariant-loop-number
invariant-loop-number g l = record {
  room_for : HasRoom l.epoch.how.form l.buffers;
  receiver : (s : Parameters) × IsReceiverOf l.epoch.partial l.epoch.mode l.epoch.guard s l.receiver;
  symbols : symbols_of l.receiver ≡ 0;
  is_open : g.H.Shelf.is_open l.shelf seats.In ≡ true;
  still_open : g.H.Shelf.is_open l.shelf ≡ g.H.Shelf.is_open l.initial.shelf;
  shelf_kept : g.H.Shelf.faults l.shelf ≡ g.H.Shelf.faults l.initial.shelf;
  sink_kept : g.K.Sink.faults l.sink ≡ g.K.Sink.faults l.initial.sink;
  sink_room : g.K.Sink.room l.sink ≡ g.K.Sink.room l.initial.sink;
  told : (stream : List ℕ) (start h : ℕ) (first : Option (List ℕ)) → start + h ≡ l.next → 0 < h → StandsFor l.initial.receiver (view_of l.epoch.how stream).cell start h
      → InEpoch (view_of l.epoch.how stream) (aim_of l.epoch.partial) stream l.epoch.limit start l.next (l.epoch.mode, l.epoch.guard) l.word (g.H.Shelf.left l.initial.shelf seats.In) first (g.K.Sink.written l.initial.sink)
      → Going l.receiver (view_of l.epoch.how stream) l.epoch.partial stream l.epoch.limit start l.number (l.epoch.mode, l.epoch.guard) l.last (g.H.Shelf.left l.shelf seats.In) first (g.K.Sink.written l.sink);
}
