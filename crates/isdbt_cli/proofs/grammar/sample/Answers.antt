use Rattle.std.proofs.Common.{[], ◌∷◌, ◌++◌, ap, ◌∙◌}
use Rattle.std.specs.Prelude.{decimal}
use Rattle.std.proofs.lemmas.Result.{err_from_is_err_and}
use Rattle.isdbt_cli.proofs.SampleSpelling.{stuck_number, number_end, spells}
use Rattle.isdbt_cli.proofs.grammar.sample.Goals as goal

pub returns-in_err-number : goal.returns-in_err-number
returns-in_err-number c =
    let p = err_from_is_err_and c.from_residual.result c.from_residual.ensures.1 in
    rw (p.1, p.2) (stuck_number c.args.words.now c.in_err-number.field-0.0 c.in_err-number.ensures.err)

pub returns-in_err-end : goal.returns-in_err-end
returns-in_err-end c =
    let p = err_from_is_err_and c.from_residual-in_err-end.result c.from_residual-in_err-end.ensures.1 in
    let end = c.in_err-end.ensures.err in
    rw (p.1, p.2) (number_end c.in_ok-number.number c.args.words.now c.sample_number.new.words c.in_err-end.field-0.0 c.in_ok-number.ensures.accepted c.in_ok-number.ensures.ok end.0 end.1)

pub returns : goal.returns
returns c =
    let n = c.in_ok-number.number in
    spells n c.args.words.now.words c.in_ok-number.ensures.accepted (c.in_ok-number.ensures.ok.split ∙ ap (λ ws. (decimal n ∷ []) ++ ws) c.in_ok-end.ensures.ok)
