use Rattle.std.proofs.Common.{◌≡◌, ◌∙◌, ◌+◌, ◌<◌, get_or, arith, ap, sym, subst}
use Rattle.isdbt_base.specs.Parameters.{IsAccepted}
use Rattle.isdbt_base.specs.Numbers.{slots_per_frame}
use Rattle.isdbt_base.proofs.NumberLaws.{total-below_slots}
use Rattle.frame_order.specs.declared.mark.Mark.{Mark}
use Rattle.frame_order.specs.Order.{mark_at, slot_of}
use Rattle.isdbt_base.specs.Plans.{Transmission}
use Rattle.frame_order.specs.Places.{IsInFrame}
use Rattle.frame_order.proofs.PlaceLaws.{place_of-below}
use Rattle.frame_order.proofs.OrderLaws.{mark_at-slot, slot_of-positive, slot_of-below}
use Rattle.frame_order.proofs.Filling.{filled-slot, slots-most}
use Rattle.frame_order.proofs.frame_order.FrameOrder.slot.Goals as goal

pub index-requires : goal.index-requires
index-requires c =
    let m : Mark = record { layer = c.args.layer; index = c.args.index } in
    let in_m : IsInFrame c.self.inside.mode c.self.inside.setting m = subst (λ (f : Transmission). IsInFrame f.mode f.setting m) (sym c.self.view_is) c.requires in
    let filled = filled-slot c.self.inside.mode c.self.inside.guard c.self.inside.setting c.self.inside.marks.items c.self.inside.slots.items c.self.invariant m in_m in
    omega (arith, filled.0, c.packets_before.ensures.value)

pub overflow_add-packets_before : goal.overflow_add-packets_before
overflow_add-packets_before c =
    let m : Mark = record { layer = c.args.layer; index = c.args.index } in
    let in_m : IsInFrame c.self.inside.mode c.self.inside.setting m = subst (λ (f : Transmission). IsInFrame f.mode f.setting m) (sym c.self.view_is) c.requires in
    let below = place_of-below c.self.inside.mode c.self.inside.setting m in_m in
    let few = total-below_slots c.self.inside.mode c.self.inside.guard c.self.inside.setting c.self.invariant.accepted in
    let most = slots-most c.self.inside.mode c.self.inside.guard in
    omega (arith, c.packets_before.ensures.value)

value : (c : goal.After-row_known-1) → c.index.result.now ≡ slot_of c.args.self.now.mode c.args.self.now.guard c.args.self.now.setting (record { layer = c.args.layer; index = c.args.index })
value c =
    let m : Mark = record { layer = c.args.layer; index = c.args.index } in
    let in_m : IsInFrame c.self.inside.mode c.self.inside.setting m = subst (λ (f : Transmission). IsInFrame f.mode f.setting m) (sym c.self.view_is) c.requires in
    let filled = filled-slot c.self.inside.mode c.self.inside.guard c.self.inside.setting c.self.inside.marks.items c.self.inside.slots.items c.self.invariant m in_m in
    subst (λ (f : Transmission). c.index.result.now ≡ slot_of f.mode f.guard f.setting m) c.self.view_is
    (c.index.ensures ∙ ap (λ n. get_or c.self.inside.slots.items (n + c.args.index) c.index.result.now) c.packets_before.ensures.value ∙ filled.1 c.index.result.now)

pub returns-clause-value : goal.returns-clause-value
returns-clause-value c = value c

pub returns-clause-first : goal.returns-clause-first
returns-clause-first c =
    let accepted = subst (λ (f : Transmission). IsAccepted f.setting) c.self.view_is c.self.invariant.accepted in
    subst (λ n. 0 < n) (sym (value c)) (slot_of-positive c.args.self.now.mode c.args.self.now.guard c.args.self.now.setting accepted (record { layer = c.args.layer; index = c.args.index }) c.requires)

pub returns-clause-last : goal.returns-clause-last
returns-clause-last c =
    let accepted = subst (λ (f : Transmission). IsAccepted f.setting) c.self.view_is c.self.invariant.accepted in
    subst (λ n. n < slots_per_frame c.args.self.now.mode c.args.self.now.guard) (sym (value c)) (slot_of-below c.args.self.now.mode c.args.self.now.guard c.args.self.now.setting accepted (record { layer = c.args.layer; index = c.args.index }) c.requires)

pub returns-clause-inverse : goal.returns-clause-inverse
returns-clause-inverse c =
    let accepted = subst (λ (f : Transmission). IsAccepted f.setting) c.self.view_is c.self.invariant.accepted in
    ap (mark_at c.args.self.now.mode c.args.self.now.guard c.args.self.now.setting) (value c)
    ∙ mark_at-slot c.args.self.now.mode c.args.self.now.guard c.args.self.now.setting accepted (record { layer = c.args.layer; index = c.args.index }) c.requires
