use Rattle.std.proofs.Common.{◌≡◌, ◌≢◌, ◌+◌, ◌-◌, ◌*◌, ◌≤◌, length, take, drop, length-drop, arith, ap, ◌∙◌, below_more}
use Rattle.std.proofs.lemmas.List.{get_or-set_other, get_or-set_same, length-take-le}
use Rattle.std.proofs.Math.Nat.{mul-add, mul-le-mul_left}
use Rattle.layer_chain.proofs.CellNumbers.{cell_number-part}
use Rattle.layer_chain.proofs.cell_numbers.number_each.Goals as goal

pub loop-cell-preserved : goal.loop-cell-preserved
loop-cell-preserved c =
    let bits = c.args.bits.now in
    let start = c.args.width * c.loop-cell.cell in
    let part = take (start + c.args.width - start) (drop start bits) in
    let next : c.loop-cell.cell + 1 ≤ length c.args.numbers.now = omega arith in
    let room : start + c.args.width ≤ length bits = (let m = mul-le-mul_left c.args.width next in let e = mul-add c.args.width c.loop-cell.cell 1 in omega (arith, m, e)) in
    let size : length part ≡ c.args.width = length-take-le (start + c.args.width - start) (drop start bits) (omega (arith, length-drop start bits, room)) ∙ omega arith in
    below_more _ _
    (λ e h. let ne : e ≢ c.loop-cell.cell = omega arith in get_or-set_other c.loop-cell.numbers c.loop-cell.cell e c.number_of.result 0 ne ∙ c.loop-cell.invariant e h)
    (get_or-set_same c.loop-cell.numbers c.loop-cell.cell c.number_of.result 0 (omega arith) ∙ c.number_of.ensures ∙ cell_number-part c.args.width start bits part (ap (λ n. take n (drop start bits)) (omega arith)) size)
