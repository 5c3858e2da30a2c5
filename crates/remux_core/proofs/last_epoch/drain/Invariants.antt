use Rattle.std.proofs.Common.{◌≡◌, ◌≤◌, length}
use Rattle.remux_core.proofs.Draining.{Drained}
use Rattle.remux_core.proofs.last_epoch.drain.Given as goal

abbrev pub invariant-loop-frame : goal.invariant-loop-frame
invariant-loop-frame g l = record {
  within : l.frame ≤ l.limit;
  size : length l.out ≡ length l.initial.out;
  told : Drained l.plan l.limit l.frames l.frame (g.K.Sink.written l.initial.sink) (g.K.Sink.written l.sink);
  room : g.K.Sink.room l.sink ≡ g.K.Sink.room l.initial.sink;
  kept : g.K.Sink.faults l.sink ≡ g.K.Sink.faults l.initial.sink;
}
