use Rattle.std.proofs.Common.{◌≡◌, ◌++◌, sym, ap, ◌∙◌, length, arith}
use Rattle.std.proofs.lemmas.List.{append_cancel_left}
use Rattle.std.proofs.lemmas.Bool.Decides.{Decides-eqb}
use Rattle.std.specs.Prelude.{codes}
use Rattle.std.proofs.lemmas.Result.{err_from_is_err_and}
use Rattle.isdbt_cli.specs.CommandLines.{IsName}
use Rattle.isdbt_cli.proofs.Stuck.{missing, wrong}
use Rattle.isdbt_cli.proofs.Transmissions.{some_name}
use Rattle.setting_words.proofs.Texts.{prefix_joins}
use Rattle.isdbt_cli.proofs.grammar.name.Goals as goal
use Rattle.isdbt_cli.proofs.grammar.name.Goals.{in_default-via-in-Some+else-not-is_empty, in_default-via-in_default}

pub returns-in_err-word-clause-err : goal.returns-in_err-word-clause-err
returns-in_err-word-clause-err c =
    let p = err_from_is_err_and c.from_residual.result c.from_residual.ensures.1 in
    rw (p.1, p.2) (missing IsName (λ name. c.args.seat.now ++ name) (codes "a") some_name c.args.words.now c.in_err-word.field-0.0 c.in_err-word.ensures.err)

pub returns-in_default-clause-err : goal.returns-in_default-clause-err
returns-in_default-clause-err c =
    wrong IsName (λ name. c.args.seat.now ++ name) (codes "a") some_name c.args.words.now c.word.new.self c.place-place.result c.in_ok-word.field-0.now c.place-place.ensures c.in_ok-word.ensures.ok
    (λ name some e. elim c.in_default.branch [
      | in_default-via-in-Some+else-not-is_empty w ↦
          (let joined = prefix_joins c.args.seat.now c.in_ok-word.field-0.now w.in-Some.name w.in-Some.ensures.cases in
          let same : w.in-Some.name.now ≡ name = append_cancel_left c.args.seat.now w.in-Some.name.now name (sym joined ∙ e) in
          let none = (Decides-eqb (length w.in-Some.name.now) 0).0 (sym w.if-not-is_empty.ensures) in
          let len = ap length same in
          omega (arith, none, len, some))
      | in_default-via-in_default w ↦ w.in_default.ensures.cases name e
    ])
