use Rattle.std.proofs.Common.{rules, ◌++◌, ◌∙◌, ap, sym, subst, map}
use Rattle.std.specs.List.Sorted.{IsPermutation}
use Rattle.std.proofs.lemmas.List.Sorted.{IsNonDecreasingBy-from_sort_by_key}
use Rattle.isdbt_base.specs.declared.kinds.Layer.{Layer}
use Rattle.isdbt_base.specs.declared.kinds.Layer.TheVariants.{A, B, C}
use Rattle.frame_order.specs.declared.clocks.Timed.{Timed}
use Rattle.frame_order.specs.Order.{layer_marks}
use Rattle.frame_order.specs.ClockOrder.{timed_of}
use Rattle.frame_order.proofs.TimedLists.{all-timed}
use Rattle.frame_order.proofs.Sorting.{clock_order}
use Rattle.frame_order.proofs.clocks.in_clock_order.Goals as goal

pub returns : goal.returns
returns c =
    let part = λ (x : Layer). map (timed_of c.args.mode c.args.guard c.args.setting.now) (layer_marks c.args.mode c.args.setting.now x) in
    let all = c.in_ok-push_layer-3.ensures {u = tt}
    ∙ ap (λ xs. xs ++ part C) (c.in_ok-push_layer-2.ensures {u = tt}
    ∙ ap (λ xs. xs ++ part B) (c.in_ok-push_layer.ensures {u = tt}
    ∙ ap (λ xs. xs ++ part A) c.new-timed.ensures.items))
    ∙ sym (all-timed c.args.mode c.args.guard c.args.setting.now) in
    clock_order c.args.mode c.args.guard c.args.setting.now c.sort_unstable_by_key.new.self.items c.acceptance_law.ensures
    (subst (λ xs. IsPermutation xs c.sort_unstable_by_key.new.self.items) all c.sort_unstable_by_key.ensures.permutation)
    (IsNonDecreasingBy-from_sort_by_key (λ (t : Timed). t.clock) _ c.sort_unstable_by_key.ensures.sorted (λ a r q k. search rules))
