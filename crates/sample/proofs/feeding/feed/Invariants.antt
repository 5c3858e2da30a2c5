use Rattle.std.proofs.Common.{◌≡◌, ◌+◌, ℕ}
use Rattle.isdbt_base.specs.declared.kinds.Mode.TheVariants.{M1}
use Rattle.seg_receiver.specs.CellStream.{FrameCells}
use Rattle.seg_receiver.specs.FrameReading.{ShowsFrame}
use Rattle.seg_receiver.specs.Receiver.{mode_of, guard_of, setting_of, symbols_of, StandsFor}
use Rattle.sample.specs.SpoiledCells.{spoiled, HasNegation}
use Rattle.sample.proofs.feeding.feed.Given as goal

abbrev pub invariant-loop-k : goal.invariant-loop-k
invariant-loop-k l = record {
  symbols : symbols_of l.receiver ≡ l.k;
  mode : mode_of l.receiver ≡ mode_of l.initial.receiver;
  guard : guard_of l.receiver ≡ guard_of l.initial.receiver;
  setting : setting_of l.receiver ≡ setting_of l.initial.receiver;
  stands : (cell : FrameCells) (start h : ℕ) → start + h ≡ l.fn.frame → ((k segment carrier : ℕ) → HasNegation (cell l.fn.frame k segment carrier))
      → StandsFor l.initial.receiver (spoiled cell) start h → ShowsFrame M1 cell l.fn.frame l.symbols → StandsFor l.receiver (spoiled cell) start h;
}
