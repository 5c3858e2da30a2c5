use Rattle.std.proofs.Common.{◌≡◌, ℕ, ◌+◌, ◌-◌, ◌<◌, ◌≤◌, false}
use Rattle.std.specs.Prelude.{slice_index_or}
use Rattle.conv_punct.specs.declared.pattern.Sent.TheVariants.{X}
use Rattle.conv_punct.specs.Sending.{sent_bit}
use Rattle.conv_punct.proofs.puncture.put_pattern.Given as goal

abbrev pub invariant-loop-index : goal.invariant-loop-index
invariant-loop-index l = record {
  sent : (r : ℕ) → r < l.index → slice_index_or l.out (l.at + r) false ≡ sent_bit l.moved (l.steps - 1) (slice_index_or l.pattern r (X 0));
  before : (j : ℕ) → j < l.at → slice_index_or l.out j false ≡ slice_index_or l.initial.out j false;
  behind : (j : ℕ) → l.at + l.index ≤ j → slice_index_or l.out j false ≡ slice_index_or l.initial.out j false;
}
