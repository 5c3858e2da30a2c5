use Rattle.std.proofs.Common.{◌≡◌, ◌≢◌, ℕ, ◌*◌, ◌/◌, Bool, true, false, List, length, refl, sym, arith}
use Rattle.std.specs.Prelude.{◌==◌, not, slice_index}
use Rattle.std.proofs.lemmas.Bool.{ne_eqb, eq-eqb}
use Rattle.ts_packet.specs.Packets.{piece, sync_byte}
use Rattle.isdbt_base.proofs.Finding.{find-none_of, find-first_of, up_to}
use Rattle.coder_core.proofs.Slots.{first_byte}
use Rattle.coder_core.proofs.check.bad_sync_slot.Goals as goal

abbrev test : List ℕ → ℕ → Bool
test frame slot = not (slice_index (piece 204 frame slot) 0 == sync_byte)

bad : (frame : List ℕ) (slot : ℕ) → slice_index frame (204 * slot) ≢ sync_byte → test frame slot ≡ true
bad frame slot ne = rw (first_byte frame slot, ne_eqb (slice_index frame (204 * slot)) sync_byte ne) refl

good : (frame : List ℕ) (slot : ℕ) → slice_index frame (204 * slot) ≡ sync_byte → test frame slot ≡ false
good frame slot e = rw (first_byte frame slot, eq-eqb (slice_index frame (204 * slot)) sync_byte e) refl

pub returns-then-frame-slot-ne-SYNC : goal.returns-then-frame-slot-ne-SYNC
returns-then-frame-slot-ne-SYNC c =
    sym (find-first_of (test c.args.frame.now) (length c.args.frame.now / 204) c.loop-slot.slot (omega (arith, c.loop-slot-test.true, c.slots_of-slot-end.ensures.value)) (bad c.args.frame.now c.loop-slot.slot c.if-frame-slot-ne-SYNC.true) c.loop-slot.invariant)

pub loop-slot-preserved : goal.loop-slot-preserved
loop-slot-preserved c = λ k h. up_to (test c.args.frame.now) c.loop-slot.slot k c.loop-slot.invariant (good c.args.frame.now c.loop-slot.slot c.if-frame-slot-ne-SYNC.false) h

pub returns : goal.returns
returns c = sym (find-none_of (test c.args.frame.now) (length c.args.frame.now / 204) (λ k less. c.loop-slot.invariant k (omega (arith, less, c.loop-slot-test.false, c.slots_of-slot-end.ensures.value))))
