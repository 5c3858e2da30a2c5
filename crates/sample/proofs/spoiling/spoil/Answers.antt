use Rattle.std.proofs.Common.{◌≡◌, ◌+◌, ◌%◌, ◌<◌, get_or, refl, arith, ◌∙◌}
use Rattle.std.proofs.Math.ListN.{set}
use Rattle.std.specs.Prelude.{pos}
use Rattle.std.proofs.lemmas.List.{get_or-set_other}
use Rattle.cell_map.specs.declared.cell.Cell.{Cell}
use Rattle.sample.proofs.SpoiledSymbols.{other-symbol, spoiled-symbol, read-at, negated-is}
use Rattle.sample.proofs.spoiling.spoil.Goals as goal

pub returns-then-symbol-frame : goal.returns-then-symbol-frame
returns-then-symbol-frame c = λ cell turns is. other-symbol cell c.args.frame c.args.symbol c.args.cells.now c.if-symbol-frame.true is

pub returns : goal.returns
returns c = λ cell turns is.
    let f = c.args.frame in
    let k = c.args.symbol in
    let r = f % 96 in
    let xs = c.args.cells.now in
    let zero_cell : Cell = record { i = pos 0; q = pos 0 } in
    let few : r < 96 = omega arith in
    let first : get_or xs r zero_cell ≡ cell f k 0 r = read-at cell f k 0 r r xs zero_cell (omega arith) (omega arith) few is in
    let sixth : get_or (set xs r c.negated.result) (480 + r) zero_cell ≡ cell f k 5 r =
    get_or-set_other xs r (480 + r) c.negated.result zero_cell (λ e. omega (arith, e)) ∙ read-at cell f k 5 r (480 + r) xs zero_cell (omega arith) (omega arith) few is in
    spoiled-symbol cell f k r xs c.negated.result c.negated-2.result c.requires.size c.if-symbol-frame.false refl
    (negated-is _ (cell f k 0 r) c.negated.result first (turns 0 r) c.negated.ensures) (negated-is _ (cell f k 5 r) c.negated-2.result sixth (turns 5 r) c.negated-2.ensures) is
