use Rattle.std.proofs.Common.{false, List, [], ◌++◌, ap, ◌∙◌, refl}
use Rattle.std.specs.Prelude.{codes}
use Rattle.std.proofs.lemmas.Result.{err_from_is_err_and}
use Rattle.std.proofs.lemmas.List.{append-nil}
use Rattle.isdbt_base.specs.declared.stream.Reading.{Reading}
use Rattle.setting_words.specs.SettingWords.{Word}
use Rattle.isdbt_cli.specs.CommandLines.{form_words, fix_words, IsName}
use Rattle.isdbt_cli.specs.Parsing.{FollowsBoth}
use Rattle.isdbt_cli.proofs.Stuck.{stuck_word, reads_both}
use Rattle.isdbt_cli.proofs.ToldWords.{read_if, left_behind, stuck_after}
use Rattle.isdbt_cli.proofs.CommandWords.{input_words}
use Rattle.isdbt_cli.proofs.CellsSpelling.{reads_form, stuck_at_guard, follows_some, name_follows, stuck_tail}
use Rattle.isdbt_cli.proofs.ShowSpelling.{Fixing, shown_lines, spells_cells}
use Rattle.isdbt_cli.proofs.grammar.show_cells.Goals as goal

pub returns-in_err-form : goal.returns-in_err-form
returns-in_err-form c =
    let p = err_from_is_err_and c.from_residual.result c.from_residual.ensures.1 in
    rw (p.1, p.2) (stuck_at_guard (FollowsBoth (codes "show") (codes "cells")) Fixing shown_lines c.args.words.now c.in_err-form.field-0.0 c.in_err-form.ensures.err)

pub returns-in_err-name : goal.returns-in_err-name
returns-in_err-name c =
    let p = err_from_is_err_and c.from_residual-in_err-name.result c.from_residual-in_err-name.ensures.1 in
    let form = c.in_ok-form.form in
    let read = c.in_ok-form.ensures.ok in
    rw (p.1, p.2) (stuck_word IsName (λ name. codes "IN=" ++ name) (FollowsBoth (codes "show") (codes "cells")) (form_words form) c.args.words.now c.form.new.words c.in_err-name.field-0.0
    (reads_form form c.args.words.now c.form.new.words read) c.in_err-name.ensures.err (follows_some (FollowsBoth (codes "show") (codes "cells")) Fixing shown_lines form)
    (name_follows (FollowsBoth (codes "show") (codes "cells")) Fixing shown_lines form c.args.words.now c.form.new.words read))

pub returns-in_err-end : goal.returns-in_err-end
returns-in_err-end c =
    let p = err_from_is_err_and c.from_residual-in_err-end.result c.from_residual-in_err-end.ensures.1 in
    let form = c.in_ok-form.form in
    let n = c.in_ok-name.name.now in
    let reads = reads_both (form_words form) (input_words n) c.args.words.now c.form.new.words c.name.new.words (reads_form form c.args.words.now c.form.new.words c.in_ok-form.ensures.ok) c.in_ok-name.ensures.ok in
    let end = c.in_err-end.ensures.err in
    rw (p.1, p.2) (stuck_tail (FollowsBoth (codes "show") (codes "cells")) Fixing shown_lines form n c.in_ok-name.ensures.name c.args.words.now c.name.new.words c.in_err-end.field-0.0 reads
    (stuck_after (codes "fix") false [] c.told_word-fix.result c.name.new.words c.told_word-fix.new.words c.in_err-end.field-0.0 tt c.told_word-fix.ensures (λ e. refl) (left_behind c.told_word-fix.new.words c.in_err-end.field-0.0 end.0 end.1)))

pub returns : goal.returns
returns c =
    let form = c.in_ok-form.form in
    let n = c.in_ok-name.name.now in
    let reads = reads_both (form_words form) (input_words n) c.args.words.now c.form.new.words c.name.new.words (reads_form form c.args.words.now c.form.new.words c.in_ok-form.ensures.ok) c.in_ok-name.ensures.ok in
    let fix = c.told_word-fix.result in
    let how : Reading = record { form = form; fix = fix } in
    let behind = read_if (codes "fix") fix c.name.new.words c.told_word-fix.new.words c.told_word-fix.ensures ∙ ap (λ (ws : List Word). fix_words fix ++ ws) c.in_ok-end.ensures.ok ∙ append-nil (fix_words fix) in
    spells_cells how n c.args.words.now.words c.in_ok-name.ensures.name (reads.split ∙ ap (λ (ws : List Word). (form_words form ++ input_words n) ++ ws) behind)
