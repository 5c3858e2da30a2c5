use Rattle.std.proofs.Common.{◌≡◌, ℕ, ◌<◌, ◌≤◌, List, length, get_or}
use Rattle.std.specs.Prelude.{All}
use Rattle.gf_rs.specs.Codewords.{IsNear}
use Rattle.gf_rs.proofs.correction.correct.Given as goal

abbrev pub invariant-loop-place : goal.invariant-loop-place
invariant-loop-place l = record {
  bytes : All (λ b. b < 256) l.initial.word;
  coefficient_bytes : (k : ℕ) → get_or l.locator k 0 < 256;
  done : (near : List ℕ) → IsNear (length l.syndromes) l.initial.word near → (k : ℕ) → k < l.place → get_or l.word k 0 ≡ get_or near k 0;
  left : (k : ℕ) → l.place ≤ k → get_or l.word k 0 ≡ get_or l.initial.word k 0;
}
