use Rattle.std.proofs.Common.{◌≡◌, ◌*◌, ◌-◌, ◌≤◌, length}
use Rattle.isdbt_base.specs.Numbers.{rate_steps}
use Rattle.viterbi_hard.specs.StandsFor.{FeedsTo}
use Rattle.viterbi_hard.proofs.decoder.Decoder.feed.Given as goal

abbrev pub invariant-loop-done : goal.invariant-loop-done
invariant-loop-done l = record {
  few : l.decided ≤ rate_steps l.fn.self.rate * l.done;
  within : l.done ≤ l.patterns;
  long : length l.steps ≡ 840;
  feed : FeedsTo l.fn.self l.self l.bits l.fn.out l.out l.decided (rate_steps l.fn.self.rate * l.done);
}

abbrev pub decreases-loop-done : goal.decreases-loop-done
decreases-loop-done l = l.patterns - l.done
