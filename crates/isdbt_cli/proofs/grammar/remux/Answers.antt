use Rattle.std.proofs.Common.{◌≡◌, false, ◌++◌, ap, ◌∙◌}
use Rattle.std.specs.Prelude.{codes, is_some, option_map}
use Rattle.std.proofs.lemmas.Result.{err_from_is_err_and}
use Rattle.std.proofs.lemmas.List.{append-nil}
use Rattle.isdbt_cli.specs.CommandLines.{IsName, IsNameIfGiven}
use Rattle.isdbt_cli.specs.Parsing.{Follows, named}
use Rattle.isdbt_cli.proofs.Stuck.{stuck_piece, stuck_word, stuck_end, reads_both}
use Rattle.isdbt_cli.proofs.Spelling.{Line, follows_some, a_follows, read_a, follows_b, b_follows, read_b, follows_c, c_follows, read_c, follows_end, end_follows, behind_plan, spells}
use Rattle.isdbt_cli.proofs.Spelling.{first_setting, given, same_used}
use Rattle.isdbt_cli.proofs.grammar.remux.Goals as goal

pub returns-in_err-plan : goal.returns-in_err-plan
returns-in_err-plan c =
    let p = err_from_is_err_and c.from_residual.result c.from_residual.ensures.1 in
    rw (p.1, p.2) (c.in_err-plan.ensures.err false)

pub returns-in_err-a : goal.returns-in_err-a
returns-in_err-a c =
    let p = err_from_is_err_and c.from_residual-in_err-a.result c.from_residual-in_err-a.ensures.1 in
    let plan = c.in_ok-plan.plan in
    let r = c.in_ok-plan.ensures.ok in
    rw (p.1, p.2) (stuck_word IsName (λ a. codes "A=" ++ a) (Follows (codes "remux")) r.read c.args.words.now c.plan.new.words c.in_err-a.field-0.0 r.reads c.in_err-a.ensures.err
    (follows_some plan r.read r.spells) (a_follows plan r.read c.plan.new.words r.spells c.in_ok-plan.ensures.end))

pub returns-in_err-b : goal.returns-in_err-b
returns-in_err-b c =
    let p = err_from_is_err_and c.from_residual-in_err-b.result c.from_residual-in_err-b.ensures.1 in
    let plan = c.in_ok-plan.plan in
    let r = c.in_ok-plan.ensures.ok in
    let s = plan.first.setting in
    let a = c.in_ok-a.a.now in
    let used : c.is_some.result ≡ is_some s.b = c.is_some.ensures ∙ ap is_some c.layer.ensures ∙ ap (λ x. is_some x.setting.b) c.at-setting.ensures.value ∙ ap (λ x. is_some x.b)
    (first_setting plan r.spells.plan) in
    rw (p.1, p.2) (behind_plan r.read c.args.words.now c.plan.new.words c.in_err-b.field-0.0 r.reads
    (stuck_piece (λ o. IsNameIfGiven o × (is_some o ≡ is_some s.b)) (named (codes "B=")) (Line r.read)
    (read_a a) c.plan.new.words c.name.new.words c.in_err-b.field-0.0 c.in_ok-a.ensures.ok (follows_b plan r.read a r.spells c.in_ok-a.ensures.name) (b_follows plan r.read a r.spells)
    (same_used (codes "B=") c.is_some.result (is_some s.b) c.name.new.words c.in_err-b.field-0.0 used c.in_err-b.ensures.err)))

pub returns-in_err-c : goal.returns-in_err-c
returns-in_err-c c =
    let p = err_from_is_err_and c.from_residual-in_err-c.result c.from_residual-in_err-c.ensures.1 in
    let plan = c.in_ok-plan.plan in
    let r = c.in_ok-plan.ensures.ok in
    let s = plan.first.setting in
    let a = c.in_ok-a.a.now in
    let used : c.is_some.result ≡ is_some s.b = c.is_some.ensures ∙ ap is_some c.layer.ensures ∙ ap (λ x. is_some x.setting.b) c.at-setting.ensures.value ∙ ap (λ x. is_some x.b)
    (first_setting plan r.spells.plan) in
    let used-2 : c.is_some-2.result ≡ is_some s.c = c.is_some-2.ensures ∙ ap is_some c.layer-2.ensures ∙ ap (λ x. is_some x.setting.c) c.at-setting.ensures.value ∙ ap (λ x. is_some x.c)
    (first_setting plan r.spells.plan) in
    let b = option_map (λ x. x.now) c.in_ok-b.b in
    let given_b = given c.in_ok-b.b c.is_some.result (is_some s.b) used c.in_ok-b.ensures.name in
    let reads_b = reads_both (read_a a) (named (codes "B=") b) c.plan.new.words c.name.new.words c.name_if.new.words c.in_ok-a.ensures.ok c.in_ok-b.ensures.ok in
    rw (p.1, p.2) (behind_plan r.read c.args.words.now c.plan.new.words c.in_err-c.field-0.0 r.reads
    (stuck_piece (λ o. IsNameIfGiven o × (is_some o ≡ is_some s.c)) (named (codes "C=")) (Line r.read) (read_b a b) c.plan.new.words c.name_if.new.words c.in_err-c.field-0.0 reads_b
    (follows_c plan r.read a b r.spells c.in_ok-a.ensures.name given_b) (c_follows plan r.read a b r.spells given_b.1)
    (same_used (codes "C=") c.is_some-2.result (is_some s.c) c.name_if.new.words c.in_err-c.field-0.0 used-2 c.in_err-c.ensures.err)))

pub returns-in_err-end : goal.returns-in_err-end
returns-in_err-end c =
    let p = err_from_is_err_and c.from_residual-in_err-end.result c.from_residual-in_err-end.ensures.1 in
    let plan = c.in_ok-plan.plan in
    let r = c.in_ok-plan.ensures.ok in
    let s = plan.first.setting in
    let a = c.in_ok-a.a.now in
    let used : c.is_some.result ≡ is_some s.b = c.is_some.ensures ∙ ap is_some c.layer.ensures ∙ ap (λ x. is_some x.setting.b) c.at-setting.ensures.value ∙ ap (λ x. is_some x.b)
    (first_setting plan r.spells.plan) in
    let used-2 : c.is_some-2.result ≡ is_some s.c = c.is_some-2.ensures ∙ ap is_some c.layer-2.ensures ∙ ap (λ x. is_some x.setting.c) c.at-setting.ensures.value ∙ ap (λ x. is_some x.c)
    (first_setting plan r.spells.plan) in
    let b = option_map (λ x. x.now) c.in_ok-b.b in
    let given_b = given c.in_ok-b.b c.is_some.result (is_some s.b) used c.in_ok-b.ensures.name in
    let reads_b = reads_both (read_a a) (named (codes "B=") b) c.plan.new.words c.name.new.words c.name_if.new.words c.in_ok-a.ensures.ok c.in_ok-b.ensures.ok in
    let d = option_map (λ x. x.now) c.in_ok-c.c in
    let given_c = given c.in_ok-c.c c.is_some-2.result (is_some s.c) used-2 c.in_ok-c.ensures.name in
    let reads_c = reads_both (read_b a b) (named (codes "C=") d) c.plan.new.words c.name_if.new.words c.name_if-2.new.words reads_b c.in_ok-c.ensures.ok in
    rw (p.1, p.2) (behind_plan r.read c.args.words.now c.plan.new.words c.in_err-end.field-0.0 r.reads
    (stuck_end (Line r.read) (read_c a b d) c.plan.new.words c.name_if-2.new.words c.in_err-end.field-0.0 reads_c c.in_err-end.ensures.err.0 c.in_err-end.ensures.err.1
    (follows_end plan r.read a b d r.spells c.in_ok-a.ensures.name given_b given_c) (end_follows plan r.read a b d r.spells given_b.1 given_c.1)))

pub returns : goal.returns
returns c =
    let plan = c.in_ok-plan.plan in
    let r = c.in_ok-plan.ensures.ok in
    let s = plan.first.setting in
    let a = c.in_ok-a.a.now in
    let used : c.is_some.result ≡ is_some s.b = c.is_some.ensures ∙ ap is_some c.layer.ensures ∙ ap (λ x. is_some x.setting.b) c.at-setting.ensures.value ∙ ap (λ x. is_some x.b)
    (first_setting plan r.spells.plan) in
    let used-2 : c.is_some-2.result ≡ is_some s.c = c.is_some-2.ensures ∙ ap is_some c.layer-2.ensures ∙ ap (λ x. is_some x.setting.c) c.at-setting.ensures.value ∙ ap (λ x. is_some x.c)
    (first_setting plan r.spells.plan) in
    let b = option_map (λ x. x.now) c.in_ok-b.b in
    let given_b = given c.in_ok-b.b c.is_some.result (is_some s.b) used c.in_ok-b.ensures.name in
    let reads_b = reads_both (read_a a) (named (codes "B=") b) c.plan.new.words c.name.new.words c.name_if.new.words c.in_ok-a.ensures.ok c.in_ok-b.ensures.ok in
    let d = option_map (λ x. x.now) c.in_ok-c.c in
    let given_c = given c.in_ok-c.c c.is_some-2.result (is_some s.c) used-2 c.in_ok-c.ensures.name in
    let reads_c = reads_both (read_b a b) (named (codes "C=") d) c.plan.new.words c.name_if.new.words c.name_if-2.new.words reads_b c.in_ok-c.ensures.ok in
    spells plan r.read a b d c.args.words.now.words r.spells c.in_ok-a.ensures.name given_b given_c
    (r.reads.split ∙ ap (λ ws. r.read ++ ws) (reads_c.split ∙ ap (λ ws. read_c a b d ++ ws) c.in_ok-end.ensures.ok ∙ append-nil (read_c a b d)))
