use Rattle.std.proofs.lemmas.Result.{err_from_is_err_and}
use Rattle.isdbt_cli.proofs.Spelling.{name_if_stuck}
use Rattle.isdbt_cli.proofs.grammar.name_if.Goals as goal

pub returns-in_err-name-clause-err : goal.returns-in_err-name-clause-err
returns-in_err-name-clause-err c =
    let p = err_from_is_err_and c.from_residual.result c.from_residual.ensures.1 in
    let h = c.if-not-used in
    rw (p.1, p.2) (name_if_stuck c.args.seat.now c.args.used c.if-not-used.false c.args.words.now c.in_err-name.field-0.0 c.in_err-name.ensures.err)
