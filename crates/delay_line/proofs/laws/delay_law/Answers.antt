use Rattle.delay_line.proofs.LineLaws.{delayed-early, delayed-late, delayed-delayed, delayed-agree}
use Rattle.delay_line.proofs.laws.delay_law.Goals as goal

pub returns : goal.returns
returns g c = record {
  early = delayed-early;
  late = delayed-late;
  twice = delayed-delayed;
  prefix = delayed-agree;
}
