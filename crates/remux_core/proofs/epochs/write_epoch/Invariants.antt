use Rattle.std.proofs.Common.{◌≡◌, ℕ, ◌≤◌, List, vec_len}
use Rattle.std.specs.declared.option.Option.{Option}
use Rattle.isdbt_base.specs.declared.kinds.Layer.{Layer}
use Rattle.remux_core.specs.Epoch.{Progress}
use Rattle.remux_core.specs.Reading.{Stands}
use Rattle.remux_core.proofs.epochs.write_epoch.Given as goal

abbrev pub invariant-loop-frame : goal.invariant-loop-frame
invariant-loop-frame g l = record {
  stands : Stands l.plan l.frame l.buffers.inputs (g.H.Shelf.is_open l.shelf);
  size : vec_len l.buffers.out ≡ vec_len l.initial.buffers.out;
  told : (input : Layer → List ℕ) (limit : ℕ) (before : Option (List ℕ)) → l.end ≤ limit → Progress l.plan input limit l.start l.initial.buffers.inputs (g.H.Shelf.left l.initial.shelf) before (g.K.Sink.written l.initial.sink) →
      Progress l.plan input limit l.frame l.buffers.inputs (g.H.Shelf.left l.shelf) before (g.K.Sink.written l.sink);
  room : g.K.Sink.room l.sink ≡ g.K.Sink.room l.initial.sink;
  still_open : g.H.Shelf.is_open l.shelf ≡ g.H.Shelf.is_open l.initial.shelf;
  shelf_kept : g.H.Shelf.faults l.shelf ≡ g.H.Shelf.faults l.initial.shelf;
  sink_kept : g.K.Sink.faults l.sink ≡ g.K.Sink.faults l.initial.sink;
}
