use Rattle.std.proofs.Common.{◌≡◌, [], ◌∷◌, Some}
use Rattle.std.specs.Prelude.{decimal}
use Rattle.std.proofs.lemmas.Result.{err_from_is_err_and}
use Rattle.isdbt_cli.specs.CommandLines.{IsSampleNumber}
use Rattle.isdbt_cli.specs.Parsing.{BeginsWith, IsStuck}
use Rattle.isdbt_cli.proofs.Stuck.{missing, wrong, refused}
use Rattle.isdbt_cli.proofs.SampleSpelling.{none_few}
use Rattle.isdbt_cli.proofs.grammar.sample_number.Goals as goal

pub returns-in_err-word-clause-err : goal.returns-in_err-word-clause-err
returns-in_err-word-clause-err c =
    let p = err_from_is_err_and c.from_residual.result c.from_residual.ensures.1 in
    rw (p.1, p.2) (missing IsSampleNumber decimal 0 none_few c.args.words.now c.in_err-word.field-0.0 c.in_err-word.ensures.err)

pub returns-clause-err : goal.returns-clause-err
returns-clause-err c =
    refused (IsStuck (BeginsWith IsSampleNumber (λ n. decimal n ∷ [])) c.args.words.now) c.ok_or.result c.sample_number_of.result c.place-place.result c.ok_or.ensures.value
    (λ none. wrong IsSampleNumber decimal 0 none_few c.args.words.now c.word.new.self c.place-place.result c.in_ok-word.word.now c.place-place.ensures c.in_ok-word.ensures.ok
    (λ x valid e. (let found : c.sample_number_of.result ≡ Some x = c.sample_number_of.ensures.found x valid e in cc)))
