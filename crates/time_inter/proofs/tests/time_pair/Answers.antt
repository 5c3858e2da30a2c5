use Rattle.std.proofs.Common.{ap, ◌∙◌}
use Rattle.time_inter.proofs.NewStages.{partners}
use Rattle.time_inter.proofs.tests.time_pair.Goals as goal

pub loop-symbol-init : goal.loop-symbol-init
loop-symbol-init g c = record { inter_paths = ap (λ l. l.paths) c.in_ok-inter.ensures.layout; deinter_paths = ap (λ l. l.paths) c.in_ok-deinter.ensures.layout }

pub through-requires-clause-partners : goal.through-requires-clause-partners
through-requires-clause-partners g c = partners _ _ _ _ c.loop-symbol.invariant.inter_paths c.loop-symbol.invariant.deinter_paths

pub loop-symbol-preserved : goal.loop-symbol-preserved
loop-symbol-preserved g c = record {
  inter_paths = ap (λ l. l.paths) c.through.ensures.first_layout ∙ c.loop-symbol.invariant.inter_paths;
  deinter_paths = ap (λ l. l.paths) c.through.ensures.second_layout ∙ c.loop-symbol.invariant.deinter_paths;
}
