use Rattle.std.proofs.Common.{◌≡◌, ℕ, ◌+◌, ◌*◌, ◌<◌, ◌≤◌, get_or}
use Rattle.std.specs.Int.{bit_at}
use Rattle.layer_chain.proofs.bit_paths.add_bits.Given as goal

abbrev pub invariant-loop-k : goal.invariant-loop-k
invariant-loop-k l = record {
  done : (j : ℕ) → j < l.k → get_or l.numbers j 0 ≡ 2 * get_or l.initial.numbers j 0 + bit_at (get_or l.others j 0) l.place;
  left : (j : ℕ) → l.k ≤ j → get_or l.numbers j 0 ≡ get_or l.initial.numbers j 0;
}
