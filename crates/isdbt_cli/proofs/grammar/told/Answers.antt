use Rattle.std.proofs.lemmas.Result.{err_from_is_err_and}
use Rattle.setting_words.specs.SettingWords.{guard_word}
use Rattle.isdbt_cli.specs.Parsing.{IsAny}
use Rattle.isdbt_cli.proofs.Stuck.{misses}
use Rattle.isdbt_cli.proofs.grammar.told.Goals as goal

pub returns-in_err-guard-clause-err : goal.returns-in_err-guard-clause-err
returns-in_err-guard-clause-err c =
    let p = err_from_is_err_and c.from_residual.result c.from_residual.ensures.1 in
    let m = misses IsAny guard_word c.next_mode.new.words c.in_err-guard.field-0.0 c.in_err-guard.ensures.err in
    rw (p.1, p.2) (record { mode = c.in-Some.mode; behind = c.next_mode.new.words; reads = c.in-Some.ensures.some; place_is = m.0; never = λ g starts. m.1 g tt starts })
