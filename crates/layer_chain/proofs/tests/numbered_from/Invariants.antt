use Rattle.std.proofs.Common.{◌≡◌, vec_len}
use Rattle.layer_chain.proofs.tests.numbered_from.Given as goal

abbrev pub invariant-loop-j : goal.invariant-loop-j
invariant-loop-j l = vec_len l.packets ≡ l.j
