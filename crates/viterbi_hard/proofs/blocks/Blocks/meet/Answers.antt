use Rattle.std.proofs.Common.{◌≡◌, ◌*◌, ◌%◌, ◌∙◌, arith, ap, get_or, set, [], refl, subst, length-set}
use Rattle.viterbi_hard.specs.Blocks.{AreLabels, Lead, place_back}
use Rattle.viterbi_hard.proofs.BlockLaws.{composed, kept_set, label_each, maps_same, own_lead}
use Rattle.viterbi_hard.proofs.blocks.Blocks.meet.Goals as goal

pub loop-back-init : goal.loop-back-init
loop-back-init c = record {
  maps = refl;
  oldest = refl;
  long = omega arith;
  lead = λ rs maps. own_lead rs;
  kept = λ rs maps b h. absurd (omega arith);
}

pub returns-then-are_equal-clause-lead : goal.returns-then-are_equal-clause-lead
returns-then-are_equal-clause-lead c = λ rs maps.
    composed c.loop-back.self rs c.loop-back.back c.loop-back.lanes c.looked_up-tags.result c.lanes_of-lanes.result (maps_same c.args.self.now c.loop-back.self rs c.loop-back.invariant.maps c.loop-back.invariant.oldest maps) (omega arith) (c.loop-back.invariant.lead rs maps)
    (λ n h. c.looked_up-tags.ensures n h ∙ ap (λ k. get_or (get_or c.loop-back.self.maps k []) (get_or c.loop-back.lanes n 0 % 64) 0) c.place-place.ensures.place)
    c.lanes_of-lanes.ensures

pub returns-then-are_equal-clause-kept : goal.returns-then-are_equal-clause-kept
returns-then-are_equal-clause-kept c = λ rs maps b h.
    subst (λ o. AreLabels (get_or (set c.loop-back.self.kept.labels c.place-place.result c.labels_of-labels.result) (place_back o b) []) b rs) c.loop-back.invariant.oldest
    (kept_set c.loop-back.self.oldest c.place-place.result c.loop-back.back c.loop-back.self.kept.labels c.labels_of-labels.result rs c.loop-back.invariant.long c.place-place.ensures.place (omega arith) (c.loop-back.invariant.kept rs maps)
    (label_each c.loop-back.self rs c.loop-back.back c.loop-back.lanes c.looked_up-tags.result c.labels_of-labels.result (maps_same c.args.self.now c.loop-back.self rs c.loop-back.invariant.maps c.loop-back.invariant.oldest maps) (omega arith) (c.loop-back.invariant.lead rs maps)
    (λ n h. c.looked_up-tags.ensures n h ∙ ap (λ k. get_or (get_or c.loop-back.self.maps k []) (get_or c.loop-back.lanes n 0 % 64) 0) c.place-place.ensures.place)
    c.labels_of-labels.ensures) b h)

pub loop-back-preserved : goal.loop-back-preserved
loop-back-preserved c = record {
  maps = c.loop-back.invariant.maps;
  oldest = c.loop-back.invariant.oldest;
  long = rw length-set c.loop-back.invariant.long;
  lead = λ rs maps.
      composed c.loop-back.self rs c.loop-back.back c.loop-back.lanes c.looked_up-tags.result c.lanes_of-lanes.result (maps_same c.args.self.now c.loop-back.self rs c.loop-back.invariant.maps c.loop-back.invariant.oldest maps) (omega arith) (c.loop-back.invariant.lead rs maps)
      (λ n h. c.looked_up-tags.ensures n h ∙ ap (λ k. get_or (get_or c.loop-back.self.maps k []) (get_or c.loop-back.lanes n 0 % 64) 0) c.place-place.ensures.place)
      c.lanes_of-lanes.ensures;
  kept = λ rs maps.
      kept_set c.loop-back.self.oldest c.place-place.result c.loop-back.back c.loop-back.self.kept.labels c.labels_of-labels.result rs c.loop-back.invariant.long c.place-place.ensures.place (omega arith) (c.loop-back.invariant.kept rs maps)
      (label_each c.loop-back.self rs c.loop-back.back c.loop-back.lanes c.looked_up-tags.result c.labels_of-labels.result (maps_same c.args.self.now c.loop-back.self rs c.loop-back.invariant.maps c.loop-back.invariant.oldest maps) (omega arith) (c.loop-back.invariant.lead rs maps)
      (λ n h. c.looked_up-tags.ensures n h ∙ ap (λ k. get_or (get_or c.loop-back.self.maps k []) (get_or c.loop-back.lanes n 0 % 64) 0) c.place-place.ensures.place)
      c.labels_of-labels.ensures);
}

pub returns-clause-lead : goal.returns-clause-lead
returns-clause-lead c = λ rs maps.
    let all : c.loop-back.back ≡ 16 = omega arith in
    subst (λ b. Lead c.loop-back.lanes (8 * b) rs) all (c.loop-back.invariant.lead rs maps)

pub returns-clause-kept : goal.returns-clause-kept
returns-clause-kept c = λ rs maps b h.
    subst (λ o. AreLabels (get_or c.loop-back.self.kept.labels (place_back o b) []) b rs) c.loop-back.invariant.oldest (c.loop-back.invariant.kept rs maps b (omega arith))
