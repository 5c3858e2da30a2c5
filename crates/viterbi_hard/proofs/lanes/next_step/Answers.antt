use Rattle.viterbi_hard.proofs.PathLaws.{are_low, holds_next, tags_after}
use Rattle.viterbi_hard.specs.Steps.{read_of}
use Rattle.viterbi_hard.proofs.lanes.next_step.Goals as goal

pub returns-clause-metrics : goal.returns-clause-metrics
returns-clause-metrics c = λ since rs k lt.
    holds_next (read_of c.args.read) c.args.metrics c.add_compare_select.result.0 since rs k (c.add_compare_select.ensures.metrics (are_low c.args.metrics since rs k lt))

pub returns-clause-tags : goal.returns-clause-tags
returns-clause-tags c = λ since rs k lt t.
    tags_after (read_of c.args.read) c.args.metrics c.args.tags c.add_compare_select.result.1 c.marked-new_tags.result since c.args.age rs k t (c.add_compare_select.ensures.tags (are_low c.args.metrics since rs k lt)) c.marked-new_tags.ensures.second c.marked-new_tags.ensures.other
