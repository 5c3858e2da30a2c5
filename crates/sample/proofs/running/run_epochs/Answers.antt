use Rattle.sample.proofs.FrameCounts.{starts-first, starts-second, inside-first, inside-second}
use Rattle.sample.proofs.running.run_epochs.Goals as goal

pub run_epoch-requires-clause-begins : goal.run_epoch-requires-clause-begins
run_epoch-requires-clause-begins c = starts-first

pub run_epoch-requires-clause-epoch : goal.run_epoch-requires-clause-epoch
run_epoch-requires-clause-epoch c = inside-first

pub run_epoch-requires-2-clause-begins : goal.run_epoch-requires-2-clause-begins
run_epoch-requires-2-clause-begins c = starts-second

pub run_epoch-requires-2-clause-epoch : goal.run_epoch-requires-2-clause-epoch
run_epoch-requires-2-clause-epoch c = inside-second
