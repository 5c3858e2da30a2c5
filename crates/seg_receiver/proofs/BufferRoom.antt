-- The buffers have room for each frame that a stream of their version can have.
use Rattle.std.proofs.Common.{rules, ◌≡◌, ◌*◌, ◌≤◌, Bool, true, false, arith, ap, vec_len}
use Rattle.isdbt_base.specs.declared.kinds.Mode.{Mode}
use Rattle.isdbt_base.specs.declared.kinds.Mode.TheVariants.{M1, M2, M3}
use Rattle.isdbt_base.specs.declared.kinds.Guard.{Guard}
use Rattle.isdbt_base.specs.declared.kinds.Guard.TheVariants.{G4, G8, G16, G32}
use Rattle.isdbt_base.specs.declared.stream.Form.{Form}
use Rattle.isdbt_base.specs.declared.stream.Form.TheVariants.{V1, V2}
use Rattle.isdbt_base.specs.Numbers.{carriers, slots_per_frame}
use Rattle.coder_core.specs.SentCells.{frame_size}
use Rattle.seg_receiver.specs.Buffers.{largest_mode, largest_guard, CanHave, HasRoom}
use Rattle.isdbt_base.specs.Parameters.{Parameters}
use Rattle.std.proofs.Math.Nat.{mul-le-mul_right}
use Rattle.isdbt_base.proofs.NumberLaws.{packets-most}
use Rattle.seg_receiver.specs.Receiver as full
use Rattle.seg_receiver.specs.PartialReceiver as part
use Rattle.seg_receiver.specs.EpochReceiver.{segments_of, frame_room, IsReceiverOf}
use Rattle.seg_receiver.specs.declared.epoch_receiver.EpochReceiver.{EpochReceiver}
use Rattle.seg_receiver.specs.declared.epoch_receiver.EpochReceiver.TheVariants.{Full, Partial}
use Rattle.seg_receiver.proofs.EpochParts.{segments-most}
use Rattle.seg_receiver.specs.declared.buffers.ReceiveBuffers.{ReceiveBuffers}

carriers-most : (mode : Mode) → carriers mode ≤ carriers M3
carriers-most M1 = omega arith
carriers-most M2 = omega arith
carriers-most M3 = omega arith

slots-most : (mode : Mode) (guard : Guard) → slots_per_frame mode guard ≤ slots_per_frame M3 G4
slots-most M1 G4 = omega arith
slots-most M1 G8 = omega arith
slots-most M1 G16 = omega arith
slots-most M1 G32 = omega arith
slots-most M2 G4 = omega arith
slots-most M2 G8 = omega arith
slots-most M2 G16 = omega arith
slots-most M2 G32 = omega arith
slots-most M3 G4 = omega arith
slots-most M3 G8 = omega arith
slots-most M3 G16 = omega arith
slots-most M3 G32 = omega arith

carriers-fit : (form : Form) (mode : Mode) (guard : Guard) → CanHave form mode guard → carriers mode ≤ carriers (largest_mode form)
carriers-fit (V1 m g) mode guard can = (let e = ap carriers can.0 in omega (arith, e))
carriers-fit V2 mode guard can = carriers-most mode

slots-fit : (form : Form) (mode : Mode) (guard : Guard) → CanHave form mode guard → slots_per_frame mode guard ≤ slots_per_frame (largest_mode form) (largest_guard form)
slots-fit (V1 m g) mode guard can =
    let e = ap (λ n. slots_per_frame n guard) can.0 in
    let k = ap (slots_per_frame m) can.1 in
    omega (arith, e, k)
slots-fit V2 mode guard can = slots-most mode guard

pub sizes-fit : (form : Form) (mode : Mode) (guard : Guard) → CanHave form mode guard → frame_size mode ≤ frame_size (largest_mode form)
sizes-fit form mode guard can = (let n = carriers-fit form mode guard can in omega (arith, n))

pub frame-fits : (form : Form) (mode : Mode) (guard : Guard) (b : ReceiveBuffers) → CanHave form mode guard → HasRoom form b → frame_size mode ≤ vec_len b.frame
frame-fits form mode guard b can has =
    let n = sizes-fit form mode guard can in
    let room = has.frame in
    omega (arith, n, room)

pub cells-fit : (form : Form) (mode : Mode) (guard : Guard) (b : ReceiveBuffers) → CanHave form mode guard → HasRoom form b → 13 * carriers mode ≤ vec_len b.cells
cells-fit form mode guard b can has =
    let n = carriers-fit form mode guard can in
    let room = has.cells in
    omega (arith, n, room)

pub packets-fit : (form : Form) (mode : Mode) (guard : Guard) (b : ReceiveBuffers) → CanHave form mode guard → HasRoom form b → 204 * slots_per_frame mode guard ≤ vec_len b.out
packets-fit form mode guard b can has =
    let n = slots-fit form mode guard can in
    let room = has.packets in
    omega (arith, n, room)

-- the same for the mode and the guard interval of a receiver
pub packets-fit_of : (form : Form) (mode m : Mode) (guard g : Guard) (b : ReceiveBuffers) → m ≡ mode → g ≡ guard → CanHave form mode guard → HasRoom form b → 204 * slots_per_frame m g ≤ vec_len b.out
packets-fit_of form mode m guard g b same_mode same_guard can has =
    let e = ap (λ n. slots_per_frame n g) same_mode in
    let k = ap (slots_per_frame mode) same_guard in
    let fits = packets-fit form mode guard b can has in
    omega (arith, e, k, fits)

-- ---- receivers

carriers-below_slots : (mode : Mode) (guard : Guard) → carriers mode ≤ slots_per_frame mode guard
carriers-below_slots mode guard = search rules

-- the buffers have room for what a receiver gives out
pub room-fits : (form : Form) (partial : Bool) (mode : Mode) (guard : Guard) (s : Parameters) (r : EpochReceiver) (b : ReceiveBuffers) → IsReceiverOf partial mode guard s r → CanHave form mode guard → HasRoom form b → frame_room r ≤ vec_len b.out
room-fits form false mode guard s (Full r) b is can has = packets-fit_of form mode (full.mode_of r) guard (full.guard_of r) b is.0 is.1 can has
room-fits form false mode guard s (Partial r) b is can has = absurd is
room-fits form true mode guard s (Full r) b is can has = absurd is
room-fits form true mode guard s (Partial r) b is can has =
    let few = packets-most (part.mode_of r) (part.layer_of r) in
    let one : 63 * carriers (part.mode_of r) * (part.layer_of r).segments ≡ 63 * carriers (part.mode_of r) * 1 = ap (λ n. 63 * carriers (part.mode_of r) * n) r.one_segment in
    let same = ap carriers is.0 in
    let below = carriers-below_slots mode guard in
    let fits = packets-fit form mode guard b can has in
    omega (arith, few, one, same, below, fits)

-- and for the cells that it takes of a symbol
pub cells-fit_of : (form : Form) (mode : Mode) (guard : Guard) (r : EpochReceiver) (b : ReceiveBuffers) → CanHave form mode guard → HasRoom form b → segments_of r * carriers mode ≤ vec_len b.cells
cells-fit_of form mode guard r b can has =
    let most = mul-le-mul_right (carriers mode) (segments-most r) in
    let fits = cells-fit form mode guard b can has in
    omega (arith, most, fits)
