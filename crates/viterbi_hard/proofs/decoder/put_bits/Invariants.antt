use Rattle.std.proofs.Common.{◌≡◌, ◌⊎◌, ℕ, ◌+◌, ◌-◌, ◌/◌, ◌^◌, ◌<◌, ◌≤◌, false, get_or}
use Rattle.viterbi_hard.specs.States.{odd}
use Rattle.viterbi_hard.proofs.decoder.put_bits.Given as goal

abbrev pub invariant-loop-bit : goal.invariant-loop-bit
invariant-loop-bit l = record {
  put : (j : ℕ) → j < l.bit → get_or l.out (l.at + j) false ≡ odd (l.label / 2 ^ (6 - j));
  rest : (i : ℕ) → ((i < l.at) ⊎ (l.at + 7 ≤ i)) → get_or l.out i false ≡ get_or l.fn.out i false;
}
