use Rattle.std.proofs.Common.{◌∙◌, refl, arith, get_or}
use Rattle.viterbi_hard.proofs.LaneLaws.{first_quarter, second_quarter, third_quarter, fourth_quarter, first_is, second_is, third_is, fourth_is, lane_fits, looked_up_at, quarter_at}
use Rattle.viterbi_hard.proofs.maps.looked_up.Goals as goal

pub returns : goal.returns
returns c = λ i h.
    looked_up_at c.args.map (get_or c.args.tags i 0) _ _ _ _ _ _ _ (lane_fits c.args.tags i c.fits-tags h)
    (c.by_bit.ensures i h) (c.by_bit-low.ensures i h) (c.by_bit-high.ensures i h)
    (c.within_quarter-first.ensures i h ∙ quarter_at c.args.map first_quarter 0 i (get_or c.args.tags i 0) c.fits-map.0 refl first_is (omega arith) h)
    (c.within_quarter-second.ensures i h ∙ quarter_at c.args.map second_quarter 1 i (get_or c.args.tags i 0) c.fits-map.0 refl second_is (omega arith) h)
    (c.within_quarter-third.ensures i h ∙ quarter_at c.args.map third_quarter 2 i (get_or c.args.tags i 0) c.fits-map.0 refl third_is (omega arith) h)
    (c.within_quarter-fourth.ensures i h ∙ quarter_at c.args.map fourth_quarter 3 i (get_or c.args.tags i 0) c.fits-map.0 refl fourth_is (omega arith) h)
