use Rattle.std.proofs.Common.{◌≡◌, ℕ, ◌+◌, ◌*◌, ◌≤◌, ◌<◌, List, true, false, take, vec_items}
use Rattle.isdbt_base.specs.Epochs.{begins_later}
use Rattle.edge_io.specs.declared.shelf.Seat.TheVariants as seats
use Rattle.coder_core.specs.InputFrames.{slots_at, packets_before}
use Rattle.coder_core.specs.Answers.{Found}
use Rattle.coder_core.specs.Buffers.{HasRoom}
use Rattle.coder_core.specs.FrameSteps.{IsOfFrame, AtFrame}
use Rattle.coder_core.proofs.coding.code_frames.Given as goal

abbrev pub invariant-loop-number : goal.invariant-loop-number
invariant-loop-number g l = record {
  coder : begins_later l.sending.plan.now l.number ≡ false → IsOfFrame l.coder l.sending.plan.now l.number;
  place : l.first_packet ≡ l.span.head + packets_before (slots_at l.sending.plan.now) l.number;
  few : l.first_packet ≤ 65536 + 5120 * l.number;
  held_few : l.held ≤ 204;
  held_later : 0 < l.number → l.held ≡ 0;
  room_for : HasRoom l.sending.plan.now l.buffers;
  is_open : g.H.Shelf.is_open l.shelf seats.In ≡ true;
  still_open : g.H.Shelf.is_open l.shelf ≡ g.H.Shelf.is_open l.initial.shelf;
  shelf_kept : g.H.Shelf.faults l.shelf ≡ g.H.Shelf.faults l.initial.shelf;
  sink_kept : g.K.Sink.faults l.sink ≡ g.K.Sink.faults l.initial.sink;
  sink_room : g.K.Sink.room l.sink ≡ g.K.Sink.room l.initial.sink;
  told : (input : List ℕ) → Found input l.span.head (take 204 (vec_items l.initial.buffers.frame)) (g.H.Shelf.left l.initial.shelf seats.In)
      → AtFrame l.sending.how l.sending.plan.now input l.span.limit l.span.head l.number l.held l.coder (vec_items l.buffers.frame) (g.H.Shelf.left l.shelf seats.In) (g.K.Sink.written l.initial.sink) (g.K.Sink.written l.sink);
}
