use Rattle.std.proofs.Common.{true, [], ◌∷◌, ◌++◌, ap, ◌∙◌}
use Rattle.std.proofs.lemmas.Result.{err_from_is_err_and}
use Rattle.std.proofs.lemmas.List.{append-nil}
use Rattle.setting_words.specs.SettingWords.{mode_word, guard_word}
use Rattle.isdbt_cli.specs.CommandLines.{told_words}
use Rattle.isdbt_cli.proofs.Stuck.{reads_both}
use Rattle.isdbt_cli.proofs.CommandWords.{input_words, bts_words}
use Rattle.isdbt_cli.proofs.ShowSpelling.{stuck_mode, stuck_guard, stuck_name, bts_end, spells_bts}
use Rattle.isdbt_cli.proofs.grammar.show_bts.Goals as goal

pub returns-in_err-mode : goal.returns-in_err-mode
returns-in_err-mode c =
    let p = err_from_is_err_and c.from_residual.result c.from_residual.ensures.1 in
    rw (p.1, p.2) (stuck_mode c.args.words.now c.in_err-mode.field-0.0 c.in_err-mode.ensures.err)

pub returns-in_err-guard : goal.returns-in_err-guard
returns-in_err-guard c =
    let p = err_from_is_err_and c.from_residual-in_err-guard.result c.from_residual-in_err-guard.ensures.1 in
    rw (p.1, p.2) (stuck_guard c.in_ok-mode.mode c.args.words.now c.mode.new.words c.in_err-guard.field-0.0 c.in_ok-mode.ensures.ok c.in_err-guard.ensures.err)

pub returns-in_err-name : goal.returns-in_err-name
returns-in_err-name c =
    let p = err_from_is_err_and c.from_residual-in_err-name.result c.from_residual-in_err-name.ensures.1 in
    let m = c.in_ok-mode.mode in
    let g = c.in_ok-guard.guard in
    let reads = reads_both (mode_word m ∷ []) (guard_word g ∷ []) c.args.words.now c.mode.new.words c.guard.new.words c.in_ok-mode.ensures.ok c.in_ok-guard.ensures.ok in
    rw (p.1, p.2) (stuck_name m g c.args.words.now c.guard.new.words c.in_err-name.field-0.0 reads c.in_err-name.ensures.err)

pub returns-in_err-end : goal.returns-in_err-end
returns-in_err-end c =
    let p = err_from_is_err_and c.from_residual-in_err-end.result c.from_residual-in_err-end.ensures.1 in
    let m = c.in_ok-mode.mode in
    let g = c.in_ok-guard.guard in
    let n = c.in_ok-name.name.now in
    let told = reads_both (mode_word m ∷ []) (guard_word g ∷ []) c.args.words.now c.mode.new.words c.guard.new.words c.in_ok-mode.ensures.ok c.in_ok-guard.ensures.ok in
    let reads = reads_both (told_words true m g) (input_words n) c.args.words.now c.guard.new.words c.name.new.words told c.in_ok-name.ensures.ok in
    let end = c.in_err-end.ensures.err in
    rw (p.1, p.2) (bts_end m g n c.args.words.now c.name.new.words c.in_err-end.field-0.0 c.in_ok-name.ensures.name reads end.0 end.1)

pub returns : goal.returns
returns c =
    let m = c.in_ok-mode.mode in
    let g = c.in_ok-guard.guard in
    let n = c.in_ok-name.name.now in
    let told = reads_both (mode_word m ∷ []) (guard_word g ∷ []) c.args.words.now c.mode.new.words c.guard.new.words c.in_ok-mode.ensures.ok c.in_ok-guard.ensures.ok in
    let reads = reads_both (told_words true m g) (input_words n) c.args.words.now c.guard.new.words c.name.new.words told c.in_ok-name.ensures.ok in
    spells_bts m g n c.args.words.now.words c.in_ok-name.ensures.name (reads.split ∙ ap (λ ws. bts_words m g n ++ ws) c.in_ok-end.ensures.ok ∙ append-nil (bts_words m g n))
