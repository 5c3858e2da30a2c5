use Rattle.std.proofs.Common.{◌-◌, ◌*◌, ◌%◌, ◌++◌, ◌∷◌, [], replicate, refl, sym, ◌∙◌, ap, arith}
use Rattle.isdbt_base.specs.Numbers.{carriers}
use Rattle.delay_line.proofs.BankLaws.{StandsFor-new, new_lines-more, new_bank-all}
use Rattle.time_inter.specs.Layouts.{deinter_layout}
use Rattle.time_inter.proofs.NewStages.{length-new, new-invariant}
use Rattle.time_inter.proofs.time_deinter.TimeDeinter.open.Goals as goal

pub loop-carrier-preserved : goal.loop-carrier-preserved
loop-carrier-preserved g c =
    c.in_ok-add.ensures.ok ∙ ap (λ b. b ++ replicate (g.row.I * (95 - 5 * c.loop-carrier.carrier % 96)) 0 ∷ []) c.loop-carrier.invariant
    ∙ sym (new_lines-more (λ p. g.row.I * (95 - 5 * p % 96)) 0 c.loop-carrier.carrier)

pub invariant_of-result : goal.invariant_of-result
invariant_of-result g c =
    let new = new_bank-all (deinter_layout g.row.I (carriers c.args.mode)) c.loop-carrier.bank c.loop-carrier.carrier c.loop-carrier.invariant (omega arith) in
    new-invariant (deinter_layout g.row.I) (carriers c.args.mode) c.loop-carrier.bank g.row.I new refl c.requires (omega arith) (omega arith)

pub returns-clause-zeros : goal.returns-clause-zeros
returns-clause-zeros g c = new_bank-all (deinter_layout g.row.I (carriers c.args.mode)) c.loop-carrier.bank c.loop-carrier.carrier c.loop-carrier.invariant (omega arith)

pub returns-clause-layout : goal.returns-clause-layout
returns-clause-layout g c =
    let new = new_bank-all (deinter_layout g.row.I (carriers c.args.mode)) c.loop-carrier.bank c.loop-carrier.carrier c.loop-carrier.invariant (omega arith) in
    ap (deinter_layout g.row.I) (length-new (deinter_layout g.row.I) (carriers c.args.mode) c.loop-carrier.bank new refl)

pub returns-clause-stands : goal.returns-clause-stands
returns-clause-stands g c =
    let l = deinter_layout g.row.I (carriers c.args.mode) in
    rw (new_bank-all l c.loop-carrier.bank c.loop-carrier.carrier c.loop-carrier.invariant (omega arith)) (StandsFor-new l)
