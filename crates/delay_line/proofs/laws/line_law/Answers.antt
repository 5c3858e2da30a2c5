use Rattle.delay_line.proofs.LineLaws.{held_after-nil, length-held_after, held_after-append, given_for-append, get_or-output, get_or-given_for}
use Rattle.delay_line.proofs.laws.line_law.Goals as goal

pub returns : goal.returns
returns g c = record {
  start = held_after-nil;
  count = length-held_after;
  next = held_after-append;
  given = given_for-append;
  item = get_or-output;
  given_item = get_or-given_for;
}
