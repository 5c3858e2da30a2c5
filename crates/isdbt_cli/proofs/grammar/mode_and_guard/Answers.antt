use Rattle.std.proofs.lemmas.Result.{err_from_is_err_and}
use Rattle.isdbt_cli.proofs.SwitchStuck.{stuck_at_guard}
use Rattle.isdbt_cli.proofs.grammar.mode_and_guard.Goals as goal

pub returns-in_err-mode-clause-err : goal.returns-in_err-mode-clause-err
returns-in_err-mode-clause-err c = λ first ok. (
    let p = err_from_is_err_and c.from_residual.result c.from_residual.ensures.1 in
    rw (p.1, p.2) (stuck_at_guard first c.args.before.mode c.args.before.guard ok c.args.words.now c.in_err-mode.field-0.0 c.in_err-mode.ensures.err))
