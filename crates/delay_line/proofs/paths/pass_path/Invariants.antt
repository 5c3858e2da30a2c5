use Rattle.delay_line.proofs.PathLaws.{PassedTurns}
use Rattle.delay_line.proofs.paths.pass_path.Given as goal

abbrev pub invariant-loop-turn : goal.invariant-loop-turn
invariant-loop-turn g l = PassedTurns l.paths l.path l.late l.input l.fn.output l.output l.turn
