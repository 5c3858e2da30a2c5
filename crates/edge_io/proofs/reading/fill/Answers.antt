use Rattle.std.proofs.Common.{rules, ◌∙◌, ap, arith}
use Rattle.std.proofs.lemmas.Result.{err_from_is_err_and}
use Rattle.edge_io.specs.Known.{drop_known}
use Rattle.edge_io.proofs.Known.{drop_known_twice, copied_more, within_more}
use Rattle.edge_io.proofs.reading.fill.Goals as goal

pub loop-at-preserved : goal.loop-at-preserved
loop-at-preserved g c =
    let was = c.loop-at.invariant in
    let step = c.in_ok-count.ensures in
    record {
      within = step.bound;
      names = search rules;
      other_left = λ other ne. step.other_left other ne ∙ was.other_left other ne;
      still_open = search rules;
      taken = step.taken ∙ ap (drop_known c.in_ok-count.count) was.taken ∙ drop_known_twice _ _ _;
      copied = copied_more _ _ _ _ _ _ was.taken was.copied step.copied;
      had = within_more _ _ _ _ was.taken was.had step.within;
      kept = search rules;
    }

-- what a failed read leaves is what the reads before it took
pub returns-in_err-count-clause-some : goal.returns-in_err-count-clause-some
returns-in_err-count-clause-some g c =
    let was = c.loop-at.invariant in
    let step = c.read_behind.ensures in
    let failed = err_from_is_err_and c.from_residual.result c.from_residual.ensures.1 in
    rw failed.1 (c.loop-at.at, omega arith, c.in_err-count.ensures.kept ∙ was.taken, was.had, rw step.front was.copied)
