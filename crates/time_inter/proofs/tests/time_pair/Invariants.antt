use Rattle.std.proofs.Common.{◌≡◌, length}
use Rattle.time_inter.proofs.tests.time_pair.Given as goal

abbrev pub invariant-loop-symbol : goal.invariant-loop-symbol
invariant-loop-symbol g l = record {
  inter_paths : length l.inter ≡ 96;
  deinter_paths : length l.deinter ≡ 96;
}
