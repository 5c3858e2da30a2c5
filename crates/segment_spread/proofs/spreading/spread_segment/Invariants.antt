use Rattle.std.proofs.Common.{◌+◌, ◌*◌}
use Rattle.isdbt_base.specs.Numbers.{carriers}
use Rattle.segment_spread.specs.Spreading.{AreSpread}
use Rattle.segment_spread.proofs.spreading.spread_segment.Given as goal

abbrev pub invariant-loop-carrier : goal.invariant-loop-carrier
invariant-loop-carrier l = AreSpread l.partial l.fn.mode l.cells l.out (l.segment * carriers l.fn.mode + l.carrier)
