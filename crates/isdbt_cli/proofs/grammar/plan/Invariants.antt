use Rattle.std.proofs.Common.{◌≡◌, length}
use Rattle.isdbt_cli.specs.Parsing.{ReadsPlan}
use Rattle.isdbt_cli.proofs.grammar.plan.Given as goal

abbrev pub invariant-loop : goal.invariant-loop
invariant-loop l = ReadsPlan l.plan l.fn.words l.words × (length l.plan.switches ≡ l.counter)
