use Rattle.std.proofs.Common.{drop}
use Rattle.viterbi_hard.proofs.ChosenLaws.{chosen_first, label_found}
use Rattle.viterbi_hard.proofs.decoder.Decoder.searched_label.Goals as goal

pub returns : goal.returns
returns c = λ since age rs k t traced none.
    label_found c.label_from.result age c.first_least.result c.args.tags rs t c.first_least.ensures.within
    (chosen_first c.args.metrics since rs c.first_least.result k c.first_least.ensures.within c.first_least.ensures.least c.first_least.ensures.first)
    (c.label_from.ensures (drop age rs) traced none)
