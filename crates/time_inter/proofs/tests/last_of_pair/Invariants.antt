use Rattle.std.proofs.Common.{◌≡◌}
use Rattle.delay_line.specs.Stages.{ArePartners}
use Rattle.time_inter.specs.LayerStage.{layout_of}
use Rattle.time_inter.specs.LayerPartner as partner
use Rattle.time_inter.proofs.tests.last_of_pair.Given as goal

abbrev pub invariant-loop-symbol : goal.invariant-loop-symbol
invariant-loop-symbol l = record {
  partners : ArePartners (layout_of l.inter) (partner.layout_of l.deinter);
  paths : (layout_of l.inter).paths ≡ 768;
}
