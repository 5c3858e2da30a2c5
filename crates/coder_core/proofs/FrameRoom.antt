-- The buffers of a coding have room for each frame of the plan.
use Rattle.std.proofs.Common.{ℕ, ◌+◌, ◌*◌, ◌≤◌, vec_len, arith}
use Rattle.isdbt_base.specs.Numbers.{carriers, slots_per_frame}
use Rattle.isdbt_base.specs.Plans.{Schedule, at_frame, greatest_of}
use Rattle.isdbt_base.proofs.EpochLaws.{greatest-covers}
use Rattle.coder_core.specs.declared.buffers.CodeBuffers.{CodeBuffers}
use Rattle.coder_core.specs.InputFrames.{slots_at}
use Rattle.coder_core.specs.SentCells.{frame_size}
use Rattle.coder_core.specs.Buffers.{HasRoom}

pub frame_fits : (p : Schedule) (f : ℕ) (b : CodeBuffers) → HasRoom p b → 204 * slots_at p f ≤ vec_len b.frame
frame_fits p f b room =
    let most : slots_at p f ≤ greatest_of (λ t. slots_per_frame t.mode t.guard) p = greatest-covers (λ t. slots_per_frame t.mode t.guard) p f in
    let size = room.frame in
    omega (arith, most, size)

pub cells_fit : (p : Schedule) (f : ℕ) (b : CodeBuffers) → HasRoom p b → 8 + frame_size (at_frame p f).mode ≤ vec_len b.cells
cells_fit p f b room =
    let most : carriers (at_frame p f).mode ≤ greatest_of (λ t. carriers t.mode) p = greatest-covers (λ t. carriers t.mode) p f in
    let size = room.cells in
    omega (arith, most, size)
