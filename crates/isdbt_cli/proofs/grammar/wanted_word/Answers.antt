use Rattle.std.proofs.Common.{◌≡◌, Bool, false, subst}
use Rattle.isdbt_cli.specs.Parsing.{ReadsIf}
use Rattle.isdbt_cli.proofs.ToldWords.{stuck_wanted}
use Rattle.isdbt_cli.proofs.grammar.wanted_word.Goals as goal

pub returns-then-not-is_told-clause-err : goal.returns-then-not-is_told-clause-err
returns-then-not-is_told-clause-err c = λ more.
    let off : c.told_word-is_told.result ≡ false = search in
    let kept = subst (λ told. ReadsIf c.args.told.now told c.args.words.now c.told_word-is_told.new.words) off c.told_word-is_told.ensures in
    stuck_wanted c.args.told.now c.args.wanted more c.args.words.now c.place-place.result c.place-place.ensures kept.1 c.if-wanted.true
