-- The room of the buffers of a receiving.
use Rattle.std.specs.Prelude.{◌≡◌, ◌*◌, vec_len}
use Rattle.isdbt_base.specs.declared.kinds.Mode.{Mode}
use Rattle.isdbt_base.specs.declared.kinds.Mode.TheVariants.{M3}
use Rattle.isdbt_base.specs.declared.kinds.Guard.{Guard}
use Rattle.isdbt_base.specs.declared.kinds.Guard.TheVariants.{G4}
use Rattle.isdbt_base.specs.declared.stream.Form.{Form}
use Rattle.isdbt_base.specs.declared.stream.Form.TheVariants.{V1, V2}
use Rattle.isdbt_base.specs.Numbers.{carriers, slots_per_frame}
use Rattle.coder_core.specs.SentCells.{frame_size}
use Rattle.seg_receiver.specs.declared.buffers.ReceiveBuffers.{ReceiveBuffers}

-- the mode and the guard interval of the largest frames that a stream of a version can have: in version 2 any
abbrev pub largest_mode : Form → Mode
largest_mode (V1 mode guard) = mode
largest_mode V2 = M3

abbrev pub largest_guard : Form → Guard
largest_guard (V1 mode guard) = guard
largest_guard V2 = G4

-- a stream of a version can have frames of this mode and guard interval
abbrev pub CanHave : Form → Mode → Guard → Type 0
CanHave (V1 m g) mode guard = (mode ≡ m) × (guard ≡ g)
CanHave V2 mode guard = Unit {0}

-- the buffers hold the symbols of the largest frame, the cells of a symbol of it, and its broadcast packets
pub record HasRoom (form : Form) (b : ReceiveBuffers) : Type 0 where
  pub frame : vec_len b.frame ≡ frame_size (largest_mode form)
  pub cells : vec_len b.cells ≡ 13 * carriers (largest_mode form)
  pub packets : vec_len b.out ≡ 204 * slots_per_frame (largest_mode form) (largest_guard form)
