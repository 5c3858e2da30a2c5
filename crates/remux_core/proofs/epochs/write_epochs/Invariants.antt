use Rattle.std.proofs.Common.{◌≡◌, ℕ, List, ◌-◌, ◌≤◌, ◌<◌, ◌⊎◌, true, vec_len}
use Rattle.std.specs.declared.option.Option.{Option}
use Rattle.isdbt_base.specs.declared.kinds.Layer.{Layer}
use Rattle.isdbt_base.specs.Epochs.{last_start, begins_later}
use Rattle.remux_core.specs.Epoch.{Progress}
use Rattle.remux_core.specs.Reading.{Stands}
use Rattle.remux_core.proofs.epochs.write_epochs.Given as goal

abbrev pub invariant-loop-end : goal.invariant-loop-end
invariant-loop-end g l = record {
  within : l.start ≤ l.limit;
  early : l.start ≤ last_start l.plan;
  begins : l.start < l.limit → (l.start ≡ 0) ⊎ (begins_later l.plan l.start ≡ true);
  stands : Stands l.plan l.start l.buffers.inputs (g.H.Shelf.is_open l.shelf);
  size : vec_len l.buffers.out ≡ vec_len l.initial.buffers.out;
  told : (input : Layer → List ℕ) (before : Option (List ℕ)) → Progress l.plan input l.limit 0 l.initial.buffers.inputs (g.H.Shelf.left l.initial.shelf) before (g.K.Sink.written l.initial.sink) →
      Progress l.plan input l.limit l.start l.buffers.inputs (g.H.Shelf.left l.shelf) before (g.K.Sink.written l.sink);
  room : g.K.Sink.room l.sink ≡ g.K.Sink.room l.initial.sink;
  still_open : g.H.Shelf.is_open l.shelf ≡ g.H.Shelf.is_open l.initial.shelf;
  shelf_kept : g.H.Shelf.faults l.shelf ≡ g.H.Shelf.faults l.initial.shelf;
  sink_kept : g.K.Sink.faults l.sink ≡ g.K.Sink.faults l.initial.sink;
}

abbrev pub decreases-loop-end : goal.decreases-loop-end
decreases-loop-end g l = l.limit - l.start
