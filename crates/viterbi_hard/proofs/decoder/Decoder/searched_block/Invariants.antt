use Rattle.std.proofs.Common.{◌≡◌, ◌⊎◌, ℕ, ◌+◌, ◌*◌, ◌<◌, ◌≤◌, List, false, get_or, length}
use Rattle.viterbi_hard.specs.declared.received.Received.{Received}
use Rattle.viterbi_hard.specs.StandsFor.{Keeps}
use Rattle.viterbi_hard.specs.States.{AreTags, Holds}
use Rattle.viterbi_hard.specs.Steps.{pushed}
use Rattle.viterbi_hard.specs.Trellis.{IsDecided}
use Rattle.viterbi_hard.proofs.decoder.Decoder.searched_block.Given as goal

abbrev pub invariant-loop-step : goal.invariant-loop-step
invariant-loop-step l = record {
  metrics : (rs : List Received) → Keeps l.fn.self rs → l.fn.self.age ≡ 0 → Holds l.metrics (8 * l.fn.self.high + l.step) (pushed l.steps l.at l.step rs);
  tags : (rs : List Received) → Keeps l.fn.self rs → l.fn.self.age ≡ 0 → AreTags l.tags l.step (pushed l.steps l.at l.step rs);
  put : (rs : List Received) → Keeps l.fn.self rs → l.fn.self.age ≡ 0 → l.fn.self.traceback.known ≡ 0 → 127 ≤ length rs → (j : ℕ) → j < l.step → IsDecided (pushed l.steps l.at (j + 1) rs) (get_or l.out (l.end + j) false);
  rest : (i : ℕ) → ((i < l.end) ⊎ (l.end + 8 ≤ i)) → get_or l.out i false ≡ get_or l.fn.out i false;
}
