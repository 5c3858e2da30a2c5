use Rattle.std.proofs.Common.{◌≡◌, ℕ, ◌≤◌, ◌<◌, List, true, take}
use Rattle.edge_io.specs.declared.shelf.Seat.TheVariants as seats
use Rattle.coder_core.specs.Answers.{Found}
use Rattle.coder_core.specs.FrameSteps.{Progress, showing_run}
use Rattle.coder_core.proofs.showing.show_frames.Given as goal

abbrev pub invariant-loop-number : goal.invariant-loop-number
invariant-loop-number g l = record {
  held_few : l.held ≤ 204;
  held_later : 0 < l.number → l.held ≡ 0;
  is_open : g.H.Shelf.is_open l.shelf seats.In ≡ true;
  still_open : g.H.Shelf.is_open l.shelf ≡ g.H.Shelf.is_open l.initial.shelf;
  shelf_kept : g.H.Shelf.faults l.shelf ≡ g.H.Shelf.faults l.initial.shelf;
  sink_kept : g.K.Sink.faults l.sink ≡ g.K.Sink.faults l.initial.sink;
  sink_room : g.K.Sink.room l.sink ≡ g.K.Sink.room l.initial.sink;
  told : (input : List ℕ) → Found input l.span.head (take 204 l.initial.frame) (g.H.Shelf.left l.initial.shelf seats.In)
      → Progress (showing_run l.slots input l.span.limit l.span.head) l.number l.held l.frame (g.H.Shelf.left l.shelf seats.In) (g.K.Sink.written l.initial.sink) (g.K.Sink.written l.sink);
}
