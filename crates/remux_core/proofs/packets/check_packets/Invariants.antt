use Rattle.std.proofs.Common.{ℕ, ◌<◌}
use Rattle.remux_core.specs.Parts.{HasSync}
use Rattle.remux_core.proofs.packets.check_packets.Given as goal

abbrev pub invariant-loop-packet : goal.invariant-loop-packet
invariant-loop-packet l = (k : ℕ) → k < l.packet → HasSync l.part k
