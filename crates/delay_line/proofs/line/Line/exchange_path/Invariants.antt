use Rattle.delay_line.proofs.PathLaws.{ExchangedTurns}
use Rattle.delay_line.proofs.line.Line.exchange_path.Given as goal

abbrev pub invariant-loop-turn : goal.invariant-loop-turn
invariant-loop-turn g l = ExchangedTurns l.paths l.path l.skipped l.fn.self l.self l.input l.fn.output l.output l.turn
