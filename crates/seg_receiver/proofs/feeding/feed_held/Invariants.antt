use Rattle.std.proofs.Common.{◌≡◌, ◌+◌, Bool, ℕ}
use Rattle.seg_receiver.specs.CellStream.{FrameCells}
use Rattle.seg_receiver.specs.FrameReading.{ShowsFrame}
use Rattle.isdbt_base.specs.declared.kinds.Mode.{Mode}
use Rattle.isdbt_base.specs.declared.kinds.Guard.{Guard}
use Rattle.isdbt_base.specs.Parameters.{Parameters}
use Rattle.seg_receiver.specs.EpochReceiver.{mode_of, segments_of, symbols_of, IsReceiverOf, StandsFor}
use Rattle.seg_receiver.proofs.feeding.feed_held.Given as goal

abbrev pub invariant-loop-k : goal.invariant-loop-k
invariant-loop-k l = record {
  symbols : symbols_of l.receiver ≡ l.k;
  mode : mode_of l.receiver ≡ mode_of l.initial.receiver;
  segments : segments_of l.receiver ≡ segments_of l.initial.receiver;
  kept : (partial : Bool) (m : Mode) (g : Guard) (s : Parameters) → IsReceiverOf partial m g s l.initial.receiver → IsReceiverOf partial m g s l.receiver;
  stands : (cell : FrameCells) (start h : ℕ) → StandsFor l.initial.receiver cell start h → ShowsFrame l.fn.mode cell (start + h) l.frame → StandsFor l.receiver cell start h;
}
