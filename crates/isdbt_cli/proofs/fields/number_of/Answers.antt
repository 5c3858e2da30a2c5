use Rattle.std.proofs.Common.{◌≡◌, Some, sym, ap, ◌∙◌}
use Rattle.std.specs.Prelude.{decimal}
use Rattle.isdbt_cli.proofs.Numbers.{number_read, told_apart}
use Rattle.isdbt_cli.proofs.fields.number_of.Goals as goal

pub returns-in-Ok-clause-found : goal.returns-in-Ok-clause-found
returns-in-Ok-clause-found c = λ n few e.
    (let read = number_read c.args.text.now c.parse.result n few e c.parse.ensures.value.0 in let is = c.in-Ok.is in let same : c.in-Ok.number ≡ n = cc in ap Some same)

pub returns-in_default-clause-found : goal.returns-in_default-clause-found
returns-in_default-clause-found c = λ n few e.
    (let read = number_read c.args.text.now c.parse.result n few e c.parse.ensures.value.0 in let is = c.in-Ok.is in let same : c.in-Ok.number ≡ n = cc in
    absurd (told_apart c.eq.result c.format.result.now c.args.text.now c.eq.ensures c.if-eq.false (c.format.ensures.text ∙ ap decimal same ∙ sym e)))

pub returns-in_default-2-clause-found : goal.returns-in_default-2-clause-found
returns-in_default-2-clause-found c = λ n few e.
    (let read = number_read c.args.text.now c.parse.result n few e c.parse.ensures.value.0 in let is = c.in_default.is in absurd (cc))
