use Rattle.delay_line.proofs.PathLaws.{FedPaths}
use Rattle.delay_line.proofs.bank.LineBank.feed.Given as goal

abbrev pub invariant-loop-path : goal.invariant-loop-path
invariant-loop-path g l = FedPaths l.paths l.fn.self l.self-inside.lines.items l.input l.output l.path
