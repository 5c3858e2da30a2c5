-- The chain of an epoch: a coder, and a receiver of its cells when some are spoiled.
use Rattle.std.specs.Prelude.{◌≡◌, ℕ, ◌-◌, ◌*◌, vec_len}
use Rattle.isdbt_base.specs.declared.kinds.Mode.TheVariants.{M1}
use Rattle.isdbt_base.specs.declared.kinds.Guard.TheVariants.{G4}
use Rattle.isdbt_base.specs.Numbers.{carriers, slots_per_frame}
use Rattle.isdbt_base.specs.Plans.{Schedule, at_frame}
use Rattle.isdbt_base.specs.Frames.{FramePackets}
use Rattle.coder_core.specs.SentCells.{frame_size}
use Rattle.coder_core.specs.FrameSteps as coder
use Rattle.seg_receiver.specs.Receiver.{mode_of, guard_of, setting_of, symbols_of, StandsFor}
use Rattle.sample.specs.SpoiledCells.{sent_cells, spoiled}
use Rattle.sample.specs.declared.chain.Chain.{Chain}
use Rattle.sample.specs.declared.buffers.Buffers.{Buffers}

-- coder and receiver have the mode, the guard interval and the setting of a frame, and the receiver stands between two frames
pub record IsOfFrame (p : Schedule) (f : ℕ) (c : Chain) : Type 0 where
  pub coder_of : coder.IsOfFrame c.coder p f
  pub mode : mode_of c.receiver ≡ (at_frame p f).mode
  pub guard : guard_of c.receiver ≡ (at_frame p f).guard
  pub setting : setting_of c.receiver ≡ (at_frame p f).setting
  pub fresh : symbols_of c.receiver ≡ 0

-- they are as the frames that stand before a frame in its epoch leave them
pub record StandsAt (p : Schedule) (frames : FramePackets) (f : ℕ) (c : Chain) : Type 0 where
  pub coder_stands : coder.StandsAt c.coder p frames f
  pub receiver_stands : StandsFor c.receiver (spoiled (sent_cells p frames)) (at_frame p f).start (f - (at_frame p f).start)

-- the buffers hold the cells of a frame, those of a symbol, a frame of broadcast packets, and a layer's packets of a frame
pub record HasRoom (b : Buffers) : Type 0 where
  pub symbols : vec_len b.symbols ≡ frame_size M1
  pub cells : vec_len b.cells ≡ 13 * carriers M1
  pub out : vec_len b.out ≡ 204 * slots_per_frame M1 G4
  pub packets : vec_len b.packets ≡ 432
