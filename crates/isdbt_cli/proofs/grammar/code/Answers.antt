use Rattle.std.proofs.Common.{true, List, [], ◌++◌, ap, ◌∙◌}
use Rattle.std.specs.Prelude.{codes}
use Rattle.std.proofs.lemmas.Result.{err_from_is_err_and}
use Rattle.std.proofs.lemmas.List.{append-nil}
use Rattle.setting_words.specs.SettingWords.{Word}
use Rattle.isdbt_base.specs.declared.stream.Writing.{Writing}
use Rattle.isdbt_cli.specs.CommandLines.{version_words, IsName}
use Rattle.isdbt_cli.specs.Parsing.{Follows}
use Rattle.isdbt_cli.proofs.Stuck.{stuck_word}
use Rattle.isdbt_cli.proofs.ToldWords.{read_if, left_behind, stuck_after}
use Rattle.isdbt_cli.proofs.CommandWords.{input_words}
use Rattle.isdbt_cli.proofs.CodeSpelling.{follows_some, name_follows, stuck_version, spells}
use Rattle.isdbt_cli.proofs.grammar.code.Goals as goal

pub returns-in_err-plan : goal.returns-in_err-plan
returns-in_err-plan c =
    let p = err_from_is_err_and c.from_residual.result c.from_residual.ensures.1 in
    rw (p.1, p.2) (c.in_err-plan.ensures.err true)

pub returns-in_err-name : goal.returns-in_err-name
returns-in_err-name c =
    let p = err_from_is_err_and c.from_residual-in_err-name.result c.from_residual-in_err-name.ensures.1 in
    let plan = c.in_ok-plan.plan in
    let r = c.in_ok-plan.ensures.ok in
    rw (p.1, p.2) (stuck_word IsName (λ name. codes "IN=" ++ name)
    (Follows (codes "code")) r.read c.args.words.now c.plan.new.words c.in_err-name.field-0.0 r.reads c.in_err-name.ensures.err (follows_some plan r.read r.spells)
    (name_follows plan r.read c.plan.new.words r.spells c.in_ok-plan.ensures.end))

pub returns-in_err-v2 : goal.returns-in_err-v2
returns-in_err-v2 c =
    let p = err_from_is_err_and c.from_residual-in_err-v2.result c.from_residual-in_err-v2.ensures.1 in
    let r = c.in_ok-plan.ensures.ok in
    let changes = c.changes_mode.ensures in
    rw (p.1, p.2) (stuck_version c.in_ok-plan.plan r.read c.in_ok-name.name.now c.changes_mode.result r.spells c.in_ok-name.ensures.name changes.keeps changes.changes
    c.args.words.now c.plan.new.words c.name.new.words c.in_err-v2.field-0.0 r.reads c.in_ok-name.ensures.ok (c.in_err-v2.ensures.err []))

pub returns-in_err-end : goal.returns-in_err-end
returns-in_err-end c =
    let p = err_from_is_err_and c.from_residual-in_err-end.result c.from_residual-in_err-end.ensures.1 in
    let r = c.in_ok-plan.ensures.ok in
    let changes = c.changes_mode.ensures in
    let told = c.in_ok-v2.ensures in
    let end = c.in_err-end.ensures.err in
    let place = c.in_err-end.field-0.0 in
    rw (p.1, p.2) (stuck_version c.in_ok-plan.plan r.read c.in_ok-name.name.now c.changes_mode.result r.spells c.in_ok-name.ensures.name changes.keeps changes.changes
    c.args.words.now c.plan.new.words c.name.new.words place r.reads c.in_ok-name.ensures.ok
    (stuck_after (codes "v2") c.changes_mode.result [] c.in_ok-v2.v2 c.name.new.words c.wanted_word.new.words place tt told.ok told.wanted (left_behind c.wanted_word.new.words place end.0 end.1)))

pub returns : goal.returns
returns c =
    let r = c.in_ok-plan.ensures.ok in
    let n = c.in_ok-name.name.now in
    let named = c.in_ok-name.ensures.ok in
    let told = c.in_ok-v2.ensures in
    let v2 = c.in_ok-v2.v2 in
    let how : Writing = record { v2 = v2 } in
    let behind = read_if (codes "v2") v2 c.name.new.words c.wanted_word.new.words told.ok ∙ ap (λ (ws : List Word). version_words v2 ++ ws) c.in_ok-end.ensures.ok ∙ append-nil (version_words v2) in
    spells c.in_ok-plan.plan how r.read n c.args.words.now.words r.spells (λ first. c.changes_mode.ensures.keeps (told.wanted first)) c.in_ok-name.ensures.name
    (r.reads.split ∙ ap (λ (ws : List Word). r.read ++ ws) (named.split ∙ ap (λ (ws : List Word). input_words n ++ ws) behind))
