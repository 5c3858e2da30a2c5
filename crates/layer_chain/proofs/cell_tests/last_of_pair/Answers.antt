use Rattle.std.proofs.Common.{◌≡◌, Bool, sym, subst}
use Rattle.delay_line.specs.Stages.{Layout, ArePartners}
use Rattle.bit_inter.specs.Layouts.{inter_layout}
use Rattle.layer_chain.proofs.cell_tests.last_of_pair.Goals as goal

pub loop-turn-init : goal.loop-turn-init
loop-turn-init c = subst (λ l. ArePartners (inter_layout 6) l) (sym c.in_ok-receiver.ensures.layout) c.bit_partner_law.ensures.sender_first

pub loop-turn-preserved : goal.loop-turn-preserved
loop-turn-preserved c = subst (λ l. ArePartners (inter_layout 6) l) (sym c.through.ensures.second_layout) c.loop-turn.invariant
