use Rattle.std.proofs.Common.{◌≡◌, ℕ, ◌<◌, false}
use Rattle.std.specs.Prelude.{not, ◌==◌, slice_index}
use Rattle.ts_packet.specs.Packets.{piece, sync_byte}
use Rattle.coder_core.proofs.check.bad_sync_slot.Given as goal

abbrev pub invariant-loop-slot : goal.invariant-loop-slot
invariant-loop-slot l = (k : ℕ) → k < l.slot → not (slice_index (piece 204 l.frame k) 0 == sync_byte) ≡ false
