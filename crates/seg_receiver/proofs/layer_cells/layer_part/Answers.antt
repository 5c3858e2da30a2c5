use Rattle.std.proofs.Common.{◌≡◌, ◌+◌, ◌-◌, take, drop, subst, arith}
use Rattle.isdbt_base.specs.Numbers.{first_segment}
use Rattle.seg_receiver.specs.UsedDecoders.{AreCellsFrom}
use Rattle.seg_receiver.proofs.ReceivedParts.{layer-cells}
use Rattle.seg_receiver.proofs.layer_cells.layer_part.Goals as goal

pub returns-clause-cells : goal.returns-clause-cells
returns-clause-cells c = λ cell f k is.
    let s = c.args.setting.now in
    let from = c.cells_before-from.result in
    let n = c.cells.result in
    let count : n ≡ from + n - from = omega arith in
    subst (λ m. AreCellsFrom c.args.mode cell (first_segment s c.args.layer) f k (take m (drop from c.args.cells.now))) count
    (layer-cells c.args.mode s c.args.layer c.args.cells.now cell f k from n c.acceptance_law.ensures c.cells_before-from.ensures.value c.cells.ensures.value is)
