use Rattle.delay_line.proofs.StageLaws.{StandsFor-nil, length-StandsFor, StandsFor-append, stage_given-append, get_or-stage_output, get_or-stage_given}
use Rattle.delay_line.proofs.laws.stage_law.Goals as goal

pub returns : goal.returns
returns g c = record {
  start = StandsFor-nil;
  count = length-StandsFor;
  next = StandsFor-append;
  given = stage_given-append;
  item = get_or-stage_output;
  given_item = λ l h n inside. get_or-stage_given l h n l.zero inside;
}
