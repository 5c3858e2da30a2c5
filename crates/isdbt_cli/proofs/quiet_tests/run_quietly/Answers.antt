use Rattle.std.proofs.Common.{arith}
use Rattle.isdbt_cli.proofs.quiet_tests.run_quietly.Goals as goal

pub returns : goal.returns
returns c = λ d spelled free.
    c.run.ensures.complete d spelled (record { opened = λ seat n is rose. omega (arith, rose); read = λ seat n is rose. omega (arith, rose); wrote = λ rose. omega (arith, rose) }) free
