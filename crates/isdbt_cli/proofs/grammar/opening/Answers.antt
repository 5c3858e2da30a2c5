use Rattle.std.proofs.Common.{[], ◌∷◌, ◌++◌}
use Rattle.std.proofs.lemmas.Result.{err_from_is_err_and}
use Rattle.isdbt_base.specs.Parameters.{IsAccepted}
use Rattle.setting_words.specs.SettingWords.{mode_word, guard_word, setting_word}
use Rattle.isdbt_cli.specs.Parsing.{IsAny}
use Rattle.isdbt_cli.proofs.Stuck.{stuck_piece, reads_none, reads_both}
use Rattle.isdbt_cli.proofs.Transmissions.{Sent, sent_mode, mode_sent, sent_guard, guard_sent, sent_setting, setting_sent}
use Rattle.isdbt_cli.proofs.grammar.opening.Goals as goal

pub returns-in_err-mode-clause-err : goal.returns-in_err-mode-clause-err
returns-in_err-mode-clause-err c =
    let p = err_from_is_err_and c.from_residual.result c.from_residual.ensures.1 in
    rw (p.1, p.2) (stuck_piece IsAny (λ m. mode_word m ∷ []) Sent [] c.args.words.now c.args.words.now c.in_err-mode.field-0.0
    (reads_none c.args.words.now) sent_mode mode_sent c.in_err-mode.ensures.err)

pub returns-in_err-guard-clause-err : goal.returns-in_err-guard-clause-err
returns-in_err-guard-clause-err c =
    let p = err_from_is_err_and c.from_residual-in_err-guard.result c.from_residual-in_err-guard.ensures.1 in
    let m = c.in_ok-mode.mode in
    rw (p.1, p.2) (stuck_piece IsAny (λ g. guard_word g ∷ []) Sent (mode_word m ∷ []) c.args.words.now c.mode.new.words c.in_err-guard.field-0.0 c.in_ok-mode.ensures.ok (sent_guard m)
    (guard_sent m) c.in_err-guard.ensures.err)

pub returns-in_err-setting-clause-err : goal.returns-in_err-setting-clause-err
returns-in_err-setting-clause-err c =
    let p = err_from_is_err_and c.from_residual-in_err-setting.result c.from_residual-in_err-setting.ensures.1 in
    let m = c.in_ok-mode.mode in
    let g = c.in_ok-guard.guard in
    rw (p.1, p.2) (stuck_piece IsAccepted (λ s. setting_word m s ∷ []) Sent (mode_word m ∷ [] ++ guard_word g ∷ []) c.args.words.now c.guard.new.words c.in_err-setting.field-0.0
    (reads_both (mode_word m ∷ []) (guard_word g ∷ []) c.args.words.now c.mode.new.words c.guard.new.words c.in_ok-mode.ensures.ok c.in_ok-guard.ensures.ok) (sent_setting m g)
    (setting_sent m g) c.in_err-setting.ensures.err)
