use Rattle.std.proofs.Common.{◌-◌, ◌*◌, ◌++◌, ◌∷◌, [], replicate, sym, ◌∙◌, ap, arith}
use Rattle.delay_line.proofs.BankLaws.{IsBankOf-new, StandsFor-new, new_lines-more, new_bank-all}
use Rattle.byte_inter.specs.Layouts.{deinter_layout}
use Rattle.byte_inter.proofs.byte_deinter.ByteDeinter.open.Goals as goal

pub loop-path-preserved : goal.loop-path-preserved
loop-path-preserved g c =
    c.in_ok-add.ensures.ok ∙ ap (λ b. b ++ replicate (g.row.UNIT * (g.row.PATHS - 1 - c.loop-path.path)) 0 ∷ []) c.loop-path.invariant
    ∙ sym (new_lines-more (λ p. g.row.UNIT * (g.row.PATHS - 1 - p)) 0 c.loop-path.path)

pub invariant_of-result : goal.invariant_of-result
invariant_of-result g c =
    let l = deinter_layout g.row.PATHS g.row.UNIT in
    (c.requires, rw (new_bank-all l c.loop-path.bank c.loop-path.path c.loop-path.invariant (omega arith)) (IsBankOf-new l))

pub returns-clause-zeros : goal.returns-clause-zeros
returns-clause-zeros g c =
    new_bank-all (deinter_layout g.row.PATHS g.row.UNIT) c.loop-path.bank c.loop-path.path c.loop-path.invariant (omega arith)

pub returns-clause-stands : goal.returns-clause-stands
returns-clause-stands g c =
    let l = deinter_layout g.row.PATHS g.row.UNIT in
    rw (new_bank-all l c.loop-path.bank c.loop-path.path c.loop-path.invariant (omega arith)) (StandsFor-new l)
