use Rattle.std.proofs.Common.{◌-◌, ◌*◌, ◌/◌, ◌++◌, ◌∷◌, [], false, replicate, sym, ◌∙◌, ap, arith}
use Rattle.delay_line.proofs.BankLaws.{IsBankOf-new, StandsFor-new, new_lines-more, new_bank-all}
use Rattle.bit_inter.specs.Layouts.{deinter_layout}
use Rattle.bit_inter.proofs.bit_deinter.BitDeinter.open.Goals as goal

pub loop-path-preserved : goal.loop-path-preserved
loop-path-preserved g c =
    c.in_ok-add.ensures.ok ∙ ap (λ b. b ++ replicate (120 - 120 * c.loop-path.path / (g.row.V - 1)) false ∷ []) c.loop-path.invariant
    ∙ sym (new_lines-more (λ p. 120 - 120 * p / (g.row.V - 1)) false c.loop-path.path)

pub invariant_of-result : goal.invariant_of-result
invariant_of-result g c =
    let l = deinter_layout g.row.V in
    (c.requires, rw (new_bank-all l c.loop-path.bank c.loop-path.path c.loop-path.invariant (omega arith)) (IsBankOf-new l))

pub returns-clause-zeros : goal.returns-clause-zeros
returns-clause-zeros g c = new_bank-all (deinter_layout g.row.V) c.loop-path.bank c.loop-path.path c.loop-path.invariant (omega arith)

pub returns-clause-stands : goal.returns-clause-stands
returns-clause-stands g c =
    let l = deinter_layout g.row.V in
    rw (new_bank-all l c.loop-path.bank c.loop-path.path c.loop-path.invariant (omega arith)) (StandsFor-new l)
