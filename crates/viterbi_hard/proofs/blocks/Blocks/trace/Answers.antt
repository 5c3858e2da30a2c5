use Rattle.std.proofs.Common.{◌≡◌, ◌≢◌, ◌+◌, ◌*◌, ◌/◌, ◌%◌, ◌<◌, ◌≤◌, ◌∙◌, arith, ap, get_or, set, length, [], refl, subst, sym, inl, inr, length-set, get_or-set_same, get_or-set_other}
use Rattle.std.proofs.Math.Nat.{eq-or-lt_of_le}
use Rattle.viterbi_hard.specs.Blocks.{AreKnown, Leads, place_back}
use Rattle.viterbi_hard.specs.States.{path_at}
use Rattle.viterbi_hard.proofs.BlockLaws.{label_all, lead_all, maps_same, place_other}
use Rattle.viterbi_hard.proofs.blocks.Blocks.trace.Goals as goal

pub loop-block-init : goal.loop-block-init
loop-block-init c = record {
  maps = refl;
  oldest = refl;
  long = omega arith;
  low = omega arith;
  lead = λ rs maps lead n h. (let here = lead n h in let same : c.args.lane ≡ c.args.lane % 64 = omega (arith, here.low) in subst (λ v. Leads v (8 * c.args.back) (path_at rs n)) same here);
  set = λ rs maps lead b le lt. absurd (omega arith);
}

pub bounds-self-end : goal.bounds-self-end
bounds-self-end c = c.loop-block.invariant.low

pub loop-block-preserved : goal.loop-block-preserved
loop-block-preserved c =
    let place : c.place-place.result ≡ place_back c.loop-block.self.oldest c.loop-block.block = c.place-place.ensures.place in
    let tag = get_or (get_or c.loop-block.self.maps c.place-place.result []) c.loop-block.end 0 in
    let from : get_or (get_or c.loop-block.self.maps c.place-place.result []) c.loop-block.end 0 ≡ get_or (get_or c.loop-block.self.maps (place_back c.loop-block.self.oldest c.loop-block.block) []) c.loop-block.end 0 =
    ap (λ k. get_or (get_or c.loop-block.self.maps k []) c.loop-block.end 0) place in
    let label : c.label_of.result ≡ get_or (get_or c.loop-block.self.maps c.place-place.result []) c.loop-block.end 0 / 64 * 64 + c.loop-block.end = omega (arith, c.label_of.ensures, c.loop-block.invariant.low) in
    record {
      maps = c.loop-block.invariant.maps;
      oldest = c.loop-block.invariant.oldest;
      long = rw length-set c.loop-block.invariant.long;
      low = omega arith;
      lead = λ rs maps lead.
          lead_all c.loop-block.self rs c.loop-block.block c.loop-block.end _ _
          (maps_same c.args.self.now c.loop-block.self rs c.loop-block.invariant.maps c.loop-block.invariant.oldest maps)
          (omega arith) (c.loop-block.invariant.lead rs maps lead) from refl;
      set = λ rs maps lead b le lt.
          let upto : b ≤ c.loop-block.block = omega arith in
          elim (eq-or-lt_of_le upto) [
            | inl e ↦
                let at : place_back c.loop-block.self.oldest b ≡ c.place-place.result = ap (place_back c.loop-block.self.oldest) e ∙ sym place in
                let within : c.place-place.result < length c.loop-block.self.labels = omega (arith, c.place-place.ensures.within, c.loop-block.invariant.long) in
                let is : get_or (set c.loop-block.self.labels c.place-place.result c.label_of.result) (place_back c.loop-block.self.oldest b) 0 ≡ c.label_of.result =
                ap (λ k. get_or (set c.loop-block.self.labels c.place-place.result c.label_of.result) k 0) at ∙ get_or-set_same c.loop-block.self.labels c.place-place.result c.label_of.result 0 within in
                subst (λ v. AreKnown v b rs) (sym is)
                (subst (λ k. AreKnown c.label_of.result k rs) (sym e)
                (label_all c.loop-block.self rs c.loop-block.block c.loop-block.end _ c.label_of.result
                (maps_same c.args.self.now c.loop-block.self rs c.loop-block.invariant.maps c.loop-block.invariant.oldest maps)
                (omega arith) (c.loop-block.invariant.lead rs maps lead) from label))
            | inr l ↦
                let ne : place_back c.loop-block.self.oldest b ≢ place_back c.loop-block.self.oldest c.loop-block.block = place_other c.loop-block.self.oldest b c.loop-block.block (omega arith) (omega arith) (omega arith) in
                let other : place_back c.loop-block.self.oldest b ≢ c.place-place.result = omega arith in
                subst (λ v. AreKnown v b rs) (sym (get_or-set_other c.loop-block.self.labels c.place-place.result (place_back c.loop-block.self.oldest b) c.label_of.result 0 other))
                (c.loop-block.invariant.set rs maps lead b le l)
          ];
    }

pub returns : goal.returns
returns c = record {
  traced = λ rs maps lead. record {
    maps = maps_same c.args.self.now c.loop-block.self rs c.loop-block.invariant.maps c.loop-block.invariant.oldest maps;
    few = omega arith;
    labels = λ b h le. c.loop-block.invariant.set rs maps lead b (omega arith) (omega arith);
    table = λ none. absurd (omega arith);
    short = omega arith;
    kept = λ b h le. absurd (omega arith);
  };
}
