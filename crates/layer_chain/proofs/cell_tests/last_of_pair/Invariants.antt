use Rattle.delay_line.specs.Stages.{ArePartners}
use Rattle.bit_inter.specs.Layouts.{inter_layout}
use Rattle.layer_chain.specs.BitDeinterleaver as partner
use Rattle.layer_chain.proofs.cell_tests.last_of_pair.Given as goal

abbrev pub invariant-loop-turn : goal.invariant-loop-turn
invariant-loop-turn l = ArePartners (inter_layout 6) (partner.layout_of l.receiver)
