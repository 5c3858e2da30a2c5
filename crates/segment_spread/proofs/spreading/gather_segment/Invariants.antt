use Rattle.std.proofs.Common.{◌+◌, ◌*◌}
use Rattle.isdbt_base.specs.Numbers.{carriers}
use Rattle.segment_spread.specs.Spreading.{AreGathered}
use Rattle.segment_spread.proofs.spreading.gather_segment.Given as goal

abbrev pub invariant-loop-carrier : goal.invariant-loop-carrier
invariant-loop-carrier l = AreGathered l.partial l.fn.mode l.cells l.out (l.segment * carriers l.fn.mode + l.carrier)
