use Rattle.std.proofs.Common.{subst, ap, sym, ◌∙◌, take, refl}
use Rattle.isdbt_cli.specs.Parsing.{StartsWith}
use Rattle.isdbt_cli.proofs.ToldWords.{differ, agree}
use Rattle.isdbt_cli.proofs.Transmissions.{same_head}
use Rattle.isdbt_cli.proofs.grammar.told_word.Goals as goal

pub returns-in_default : goal.returns-in_default
returns-in_default c = (refl, λ starts. (let bad = sym starts ∙ ap (take 1) (c.peek.ensures.none c.in_default.is) in cc))

pub returns-then-ne : goal.returns-then-ne
returns-then-ne c = (refl, λ starts. differ c.ne.result c.in-Some.word.now c.args.told.now c.ne.ensures c.if-ne.true (same_head (sym c.in-Some.ensures.some ∙ starts)))

pub returns : goal.returns
returns c =
    let same = agree c.ne.result c.in-Some.word.now c.args.told.now c.ne.ensures c.if-ne.false in
    c.skip.ensures c.args.told.now (subst (λ w. StartsWith w c.args.words.now.words) same c.in-Some.ensures.some)
