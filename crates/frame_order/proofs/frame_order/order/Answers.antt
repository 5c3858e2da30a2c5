use Rattle.std.proofs.Common.{arith, ◌≡◌, ◌∙◌, ◌+◌, ◌-◌, ◌<◌, ℕ, min, max, sym, ap, subst, ◌≤◌, Fits, w32, length, get_or, replicate, None}
use Rattle.std.proofs.lemmas.List.{get_or_default}
use Rattle.isdbt_base.specs.declared.kinds.Layer.TheVariants.{A}
use Rattle.isdbt_base.specs.Numbers.{slots_per_frame, total_packets}
use Rattle.isdbt_base.proofs.NumberLaws.{total-below_slots}
use Rattle.frame_order.specs.declared.clocks.Timed.{Timed}
use Rattle.frame_order.specs.Slots.{slot_after}
use Rattle.frame_order.specs.ClockOrder.{IsClockOrder}
use Rattle.frame_order.proofs.Ranks.{length-items}
use Rattle.frame_order.proofs.Filling.{IsPlaced, placed-none, placed-more, placed-all, max-is, slots-most, filled_up, item-place, slot-room}
use Rattle.frame_order.proofs.frame_order.order.Goals as goal

-- where no element is
free : (a b c d : ℕ) → a ≡ b → c ≡ d → a - c ≡ b - d
free a b c d e f = omega arith

abbrev no_packet : Timed
no_packet = record { clock = 0; place = 0; mark = record { layer = A; index = 0 } }

pub overflow_sub-free : goal.overflow_sub-free
overflow_sub-free c = omega (arith, total-below_slots c.args.mode c.args.guard c.args.setting.now c.acceptance_law.ensures, c.slots.ensures.value, c.total-total.ensures)

pub loop-rank-init : goal.loop-rank-init
loop-rank-init c =
    let order = subst (λ xs. IsClockOrder c.args.mode c.args.guard c.args.setting.now xs) (sym c.deref-packet-items.ensures.value) (c.in_ok-timed.ensures {u = tt}) in
    let start = placed-none c.args.mode c.args.guard c.args.setting.now c.deref-packet-items.result.now c.acceptance_law.ensures order in
    let slots_new = filled_up c.new-by_slot.result.items c.resize.new.self.items _ _ (slots_per_frame c.args.mode c.args.guard) None c.new-by_slot.ensures.items c.new-by_slot.ensures.len c.slots-2.ensures.value (c.in_ok-resize.ensures {u = tt}).items in
    let places_new = filled_up c.new-by_place.result.items c.resize-2.new.self.items _ _ (total_packets c.args.mode c.args.setting.now) 0 c.new-by_place.ensures.items c.new-by_place.ensures.len c.total-total.ensures (c.in_ok-resize-2.ensures {u = tt}).items in
    subst (λ xs. IsPlaced c.args.mode c.args.guard c.args.setting.now c.deref-packet-items.result.now 0 0 xs c.resize-2.new.self.items) slots_new
    (subst (λ ys. IsPlaced c.args.mode c.args.guard c.args.setting.now c.deref-packet-items.result.now 0 0 (replicate (slots_per_frame c.args.mode c.args.guard) None) ys) places_new start)

pub overflow_cast-rank : goal.overflow_cast-rank
overflow_cast-rank c =
    let l = length-items c.args.mode c.args.guard c.args.setting.now c.deref-packet-items.result.now c.loop-rank.invariant.order in
    let few = total-below_slots c.args.mode c.args.guard c.args.setting.now c.acceptance_law.ensures in
    let most = slots-most c.args.mode c.args.guard in
    omega (arith, c.loop-rank-test.true)

pub overflow_add-free : goal.overflow_add-free
overflow_add-free c =
    let l = length-items c.args.mode c.args.guard c.args.setting.now c.deref-packet-items.result.now c.loop-rank.invariant.order in
    let few = total-below_slots c.args.mode c.args.guard c.args.setting.now c.acceptance_law.ensures in
    let most = slots-most c.args.mode c.args.guard in
    omega (arith, c.loop-rank-test.true, c.slots.ensures.value, c.total-total.ensures)

pub index_mut-requires : goal.index_mut-requires
index_mut-requires c =
    let l = length-items c.args.mode c.args.guard c.args.setting.now c.deref-packet-items.result.now c.loop-rank.invariant.order in
    let few = total-below_slots c.args.mode c.args.guard c.args.setting.now c.acceptance_law.ensures in
    let room = slot-room c.min-slot.result c.max-ready.result (c.slots.result - c.total-total.result) c.loop-rank.rank (slots_per_frame c.args.mode c.args.guard) (total_packets c.args.mode c.args.setting.now)
    c.min-slot.ensures (free c.slots.result _ c.total-total.result _ c.slots.ensures.value c.total-total.ensures) (subst (λ n. c.loop-rank.rank < n) l c.loop-rank-test.true) few in
    let count = c.loop-rank.invariant.slot_count in
    omega arith

pub index_mut-requires-in-loop-rank : goal.index_mut-requires-in-loop-rank
index_mut-requires-in-loop-rank c =
    let h = (item-place c.args.mode c.args.guard c.args.setting.now c.deref-packet-items.result.now c.loop-rank.invariant.order c.loop-rank.rank no_packet c.loop-rank-test.true) in
    let count = c.loop-rank.invariant.place_count in
    omega arith

pub overflow_add-next : goal.overflow_add-next
overflow_add-next c =
    let l = length-items c.args.mode c.args.guard c.args.setting.now c.deref-packet-items.result.now c.loop-rank.invariant.order in
    let few = total-below_slots c.args.mode c.args.guard c.args.setting.now c.acceptance_law.ensures in
    let most = slots-most c.args.mode c.args.guard in
    let room = slot-room c.min-slot.result c.max-ready.result (c.slots.result - c.total-total.result) c.loop-rank.rank (slots_per_frame c.args.mode c.args.guard) (total_packets c.args.mode c.args.setting.now)
    c.min-slot.ensures (free c.slots.result _ c.total-total.result _ c.slots.ensures.value c.total-total.ensures) (subst (λ n. c.loop-rank.rank < n) l c.loop-rank-test.true) few in
    fits c.min-slot.result (slots_per_frame c.args.mode c.args.guard) room most
  where
    fits : (a b : ℕ) → a < b → b ≤ 5120 → Fits w32 (a + 1)
    fits a b h k = omega arith

pub loop-rank-preserved : goal.loop-rank-preserved
loop-rank-preserved c =
    let t : Timed = get_or c.deref-packet-items.result.now c.loop-rank.rank (record { clock = 0; place = 0; mark = record { layer = A; index = 0 } }) in
    placed-more c.args.mode c.args.guard c.args.setting.now c.deref-packet-items.result.now c.loop-rank.rank c.loop-rank.next c.loop-rank.by_slot.items c.loop-rank.by_place.items t c.min-slot.result c.loop-rank.invariant c.loop-rank-test.true
    (get_or_default c.deref-packet-items.result.now c.loop-rank.rank (record { clock = 0; place = 0; mark = record { layer = A; index = 0 } }) t c.loop-rank-test.true)
    (c.min-slot.ensures
    ∙ ap (λ n. min n (c.slots.result - c.total-total.result + c.loop-rank.rank)) (c.max-ready.ensures ∙ max-is _ _ ∙ ap (λ n. max c.loop-rank.next n) c.div_ceil.ensures)
    ∙ ap (λ n. min (max c.loop-rank.next (slot_after t.clock)) (n + c.loop-rank.rank)) (free c.slots.result _ c.total-total.result _ c.slots.ensures.value c.total-total.ensures))

pub invariant_of-result : goal.invariant_of-result
invariant_of-result c =
    placed-all c.args.mode c.args.guard c.args.setting.now c.deref-packet-items.result.now c.loop-rank.rank c.loop-rank.next c.loop-rank.by_slot.items c.loop-rank.by_place.items c.loop-rank.invariant (equal c.loop-rank.rank (length c.deref-packet-items.result.now) c.loop-rank.auto.rank-end c.loop-rank-test.false)
  where
    equal : (a b : ℕ) → a ≤ b → b ≤ a → a ≡ b
    equal a b h k = omega arith
