use Rattle.std.proofs.Common.{◌≡◌, ◌+◌, ◌*◌, ◌<◌, ℕ, get_or}
use Rattle.std.specs.Prelude.{pos}
use Rattle.seg_receiver.specs.FrameReading.{cell_at}
use Rattle.seg_receiver.proofs.symbols.read_cells.Given as goal

abbrev pub invariant-loop-n : goal.invariant-loop-n
invariant-loop-n l = (m : ℕ) → m < l.n → get_or l.cells m (record { i = pos 0; q = pos 0 }) ≡ cell_at l.symbol (1 + 2 * m)
