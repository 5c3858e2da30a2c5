use Rattle.std.proofs.Common.{◌≡◌, ◌∙◌, ◌<◌, Option, Some, None, length, get_or, IfSome, arith, ap, sym, subst}
use Rattle.std.proofs.lemmas.List.FromFn.{length-map-range_with_len, get_or-map-range_with_len}
use Rattle.isdbt_base.specs.Numbers.{slots_per_frame}
use Rattle.frame_order.specs.declared.mark.Mark.{Mark}
use Rattle.frame_order.specs.Order.{mark_at, slot_of}
use Rattle.isdbt_base.specs.Plans.{Transmission}
use Rattle.frame_order.specs.Places.{IsInFrame}
use Rattle.frame_order.proofs.OrderLaws.{mark_at-some}
use Rattle.frame_order.proofs.frame_order.FrameOrder.mark.Goals as goal

pub index-requires : goal.index-requires
index-requires c =
    let l = ap length c.self.invariant.marks ∙ length-map-range_with_len (mark_at c.self.inside.mode c.self.inside.guard c.self.inside.setting) 0 (slots_per_frame c.self.inside.mode c.self.inside.guard) in
    let h : c.args.slot < slots_per_frame c.self.inside.mode c.self.inside.guard = subst (λ (f : Transmission). c.args.slot < slots_per_frame f.mode f.guard) (sym c.self.view_is) c.requires in
    omega arith

pub returns-clause-value : goal.returns-clause-value
returns-clause-value c =
    let h : c.args.slot < slots_per_frame c.self.inside.mode c.self.inside.guard = subst (λ (f : Transmission). c.args.slot < slots_per_frame f.mode f.guard) (sym c.self.view_is) c.requires in
    subst (λ (f : Transmission). c.index.result.now ≡ mark_at f.mode f.guard f.setting c.args.slot) c.self.view_is
    (c.index.ensures ∙ ap (λ xs. get_or xs c.args.slot c.index.result.now) c.self.invariant.marks
    ∙ get_or-map-range_with_len (mark_at c.self.inside.mode c.self.inside.guard c.self.inside.setting) 0 (slots_per_frame c.self.inside.mode c.self.inside.guard) c.args.slot c.args.slot c.index.result.now h (omega arith))

pub returns-clause-inverse : goal.returns-clause-inverse
returns-clause-inverse c = go c.index.result.now (returns-clause-value c)
  where
    go : (o : Option Mark) → o ≡ mark_at c.args.self.now.mode c.args.self.now.guard c.args.self.now.setting c.args.slot → IfSome o (λ m. IsInFrame c.args.self.now.mode c.args.self.now.setting m × (slot_of c.args.self.now.mode c.args.self.now.guard c.args.self.now.setting m ≡ c.args.slot))
    go None e = tt
    go (Some m) e = mark_at-some c.args.self.now.mode c.args.self.now.guard c.args.self.now.setting c.args.slot m (sym e)
