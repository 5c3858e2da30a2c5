use Rattle.std.proofs.Common.{◌≡◌, vec_len}
use Rattle.layer_chain.proofs.adjusted.Adjusted.open.Given as goal

abbrev pub invariant-loop-item : goal.invariant-loop-item
invariant-loop-item g l = vec_len l.middle ≡ l._item
