use Rattle.std.proofs.Common.{◌≡◌, ◌+◌, ◌-◌, ◌*◌, ◌≤◌, length, get_or, ap, ◌∙◌, arith}
use Rattle.std.proofs.Math.Nat.{mul-add, mul-le-mul_left}
use Rattle.std.proofs.lemmas.Slice.{take-put_mid}
use Rattle.layer_chain.specs.LayerCells.{bit_of_number}
use Rattle.layer_chain.proofs.CellNumbers.{bits-more}
use Rattle.layer_chain.proofs.cell_bits.put_wide.Goals as goal

pub loop-cell-preserved : goal.loop-cell-preserved
loop-cell-preserved c =
    let width = c.args.width in
    let at = width * c.loop-cell.cell in
    let bits = c.loop-cell.bits in
    let part = c.put_number.new.bits in
    let numbers = c.args.numbers.now in
    let next : c.loop-cell.cell + 1 ≤ length numbers = omega arith in
    let room : at + width ≤ length bits = (let m = mul-le-mul_left width next in let e = mul-add width c.loop-cell.cell 1 in omega (arith, m, e)) in
    let size : length part ≡ width = omega (arith, room) in
    bits-more width c.loop-cell.cell numbers bits _ part (take-put_mid at (at + width - at) bits part (at + width) (omega (arith, size)) (omega (arith, room))) (omega (arith, room)) c.loop-cell.invariant
    (λ r k. c.put_number.ensures r (omega (arith, size, k)) ∙ ap (λ w. bit_of_number w (get_or numbers c.loop-cell.cell 0) r) size)
