use Rattle.std.proofs.Common.{◌≡◌, ℕ, ◌<◌, false}
use Rattle.coder_core.specs.FrameChecks.{is_misplaced}
use Rattle.coder_core.proofs.check.misplaced_slot.Given as goal

abbrev pub invariant-loop-slot : goal.invariant-loop-slot
invariant-loop-slot l = (k : ℕ) → k < l.slot → is_misplaced l.frame k ≡ false
