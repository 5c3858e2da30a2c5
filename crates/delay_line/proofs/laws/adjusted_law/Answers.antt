use Rattle.delay_line.proofs.AdjustedLaws.{AdjustedStandsFor-nil, AdjustedStandsFor-append, get_or-adjusted_output}
use Rattle.delay_line.proofs.laws.adjusted_law.Goals as goal

pub returns : goal.returns
returns g c = record {
  start = AdjustedStandsFor-nil;
  next = AdjustedStandsFor-append;
  item = get_or-adjusted_output;
}
