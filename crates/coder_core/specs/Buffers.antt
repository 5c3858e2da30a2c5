-- The room of the buffers of a coding.
use Rattle.std.specs.Prelude.{◌≡◌, ◌+◌, ◌*◌, vec_len}
use Rattle.isdbt_base.specs.Heads.{head_size}
use Rattle.isdbt_base.specs.Numbers.{frame_symbols, carriers, slots_per_frame}
use Rattle.isdbt_base.specs.Plans.{Schedule, greatest_of}
use Rattle.coder_core.specs.declared.buffers.CodeBuffers.{CodeBuffers}

-- the buffers hold the greatest frame of broadcast packets of a plan, and its greatest frame of cells with a head
pub record HasRoom (p : Schedule) (b : CodeBuffers) : Type 0 where
  pub frame : vec_len b.frame ≡ 204 * greatest_of (λ t. slots_per_frame t.mode t.guard) p
  pub cells : vec_len b.cells ≡ head_size + frame_symbols * (1 + 26 * greatest_of (λ t. carriers t.mode) p)
