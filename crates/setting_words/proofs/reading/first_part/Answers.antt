use Rattle.std.proofs.Common.{lit<}
use Rattle.setting_words.proofs.Texts.{split_joins, split_lacks}
use Rattle.setting_words.proofs.reading.first_part.Goals as goal

pub returns-in-Some-clause-first : goal.returns-in-Some-clause-first
returns-in-Some-clause-first c = (split_joins 44 c.args.text.now c.split_once.result c.in-Some.first c.in-Some.others c.split_once.ensures.cases (lit< tt) c.in-Some.is).1

pub returns-in-None-clause-first : goal.returns-in-None-clause-first
returns-in-None-clause-first c = split_lacks 44 c.args.text.now c.split_once.result c.split_once.ensures.cases (lit< tt) c.in-None.is
