use Rattle.std.proofs.Common.{subst, sym, refl, ◌≡◌, map, string_bytes}
use Rattle.std.specs.Prelude.{codes}
use Rattle.std.proofs.lemmas.Result.{err_from_is_err_and}
use Rattle.isdbt_cli.specs.Parsing.{Unread, IsStuck}
use Rattle.isdbt_cli.proofs.Stuck.{AnyCommand, fault_at}
use Rattle.isdbt_cli.proofs.Spelling.{no_words, no_command, whole_line}
use Rattle.isdbt_cli.proofs.grammar.any_command.Goals as goal

pub returns-in_err-word : goal.returns-in_err-word
returns-in_err-word c =
    let p = err_from_is_err_and c.from_residual.result c.from_residual.ensures.1 in
    rw (p.1, p.2) (fault_at (map string_bytes c.args.list.now) c.in_err-word.field-0.0 (subst (λ (u : Unread). IsStuck AnyCommand u c.in_err-word.field-0.0) c.new-words.ensures
    (no_words c.new-words.result c.in_err-word.field-0.0 c.in_err-word.ensures.err)))

pub returns-in-remux : goal.returns-in-remux
returns-in-remux c = whole_line (codes "remux")
    (map string_bytes c.args.list.now) c.new-words.result c.word.new.self c.in_ok-word.field-0.now c.remux.result c.new-words.ensures c.in_ok-word.ensures.ok c.in-remux.is c.remux.ensures

pub returns-in-code : goal.returns-in-code
returns-in-code c = whole_line (codes "code")
    (map string_bytes c.args.list.now) c.new-words.result c.word.new.self c.in_ok-word.field-0.now c.code.result c.new-words.ensures c.in_ok-word.ensures.ok c.in-code.is c.code.ensures

pub returns-in-receive : goal.returns-in-receive
returns-in-receive c =
    whole_line (codes "receive") (map string_bytes c.args.list.now) c.new-words.result c.word.new.self c.in_ok-word.field-0.now c.receive.result c.new-words.ensures
    c.in_ok-word.ensures.ok c.in-receive.is c.receive.ensures

pub returns-in-show : goal.returns-in-show
returns-in-show c =
    whole_line (codes "show") (map string_bytes c.args.list.now) c.new-words.result c.word.new.self c.in_ok-word.field-0.now c.show.result c.new-words.ensures
    c.in_ok-word.ensures.ok c.in-show.is c.show.ensures

pub returns-in-sample : goal.returns-in-sample
returns-in-sample c =
    whole_line (codes "sample") (map string_bytes c.args.list.now) c.new-words.result c.word.new.self c.in_ok-word.field-0.now c.sample.result c.new-words.ensures
    c.in_ok-word.ensures.ok c.in-sample.is c.sample.ensures

pub returns-in_default : goal.returns-in_default
returns-in_default c =
    fault_at (map string_bytes c.args.list.now) 0 (subst (λ (u : Unread). IsStuck AnyCommand u 0) c.new-words.ensures
    (no_command c.new-words.result c.word.new.self c.in_ok-word.field-0.now 0 (subst (λ (u : Unread). 0 ≡ u.place)
    (sym c.new-words.ensures) refl) c.in_ok-word.ensures.ok c.in_default.not-remux c.in_default.not-code c.in_default.not-receive c.in_default.not-show c.in_default.not-sample))
