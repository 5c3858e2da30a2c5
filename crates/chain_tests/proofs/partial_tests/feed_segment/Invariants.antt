use Rattle.std.proofs.Common.{◌≡◌}
use Rattle.isdbt_base.specs.declared.kinds.Mode.TheVariants.{M1 as first_mode}
use Rattle.seg_receiver.specs.PartialReceiver.{mode_of, symbols_of}
use Rattle.chain_tests.proofs.partial_tests.feed_segment.Given as goal

abbrev pub invariant-loop-k : goal.invariant-loop-k
invariant-loop-k l = record {
  symbols : symbols_of l.receiver ≡ l.k;
  mode : mode_of l.receiver ≡ first_mode;
}
