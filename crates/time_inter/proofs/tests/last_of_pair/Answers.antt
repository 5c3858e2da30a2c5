use Rattle.std.proofs.Common.{◌≡◌, ap, sym, subst, ◌∙◌, rules}
use Rattle.delay_line.specs.Stages.{Layout, ArePartners}
use Rattle.std.specs.Prelude.{ℕ}
use Rattle.time_inter.proofs.tests.last_of_pair.Goals as goal

-- layouts that are those of partners are partners
are_partners : (a b : Layout ℕ) {l m : Layout ℕ} → a ≡ l → b ≡ m → ArePartners l m → ArePartners a b
are_partners a b e f h = rw (e, f) h

pub loop-symbol-init : goal.loop-symbol-init
loop-symbol-init c = record {
  partners = are_partners _ _ c.in_ok-inter.ensures.layout c.in_ok-deinter.ensures.layout c.layer_partner_law.ensures.sender_first;
  paths = search rules;
}

pub loop-symbol-preserved : goal.loop-symbol-preserved
loop-symbol-preserved c = record {
  partners = are_partners _ _ c.through.ensures.first_layout c.through.ensures.second_layout c.loop-symbol.invariant.partners;
  paths = ap (λ l. l.paths) c.through.ensures.first_layout ∙ c.loop-symbol.invariant.paths;
}
