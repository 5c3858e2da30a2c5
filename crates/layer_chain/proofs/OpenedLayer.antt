-- A new coder has seen no frame.
use Rattle.std.proofs.Common.{◌≡◌, ℕ, ◌*◌, List, [], sym, subst, arith}
use Rattle.delay_line.specs.Stages.{Layout}
use Rattle.delay_line.specs.Adjusted.{AdjustedStandsFor}
use Rattle.conv_punct.specs.declared.encoder.Encoder.{Encoder}
use Rattle.conv_punct.specs.StandsFor as inner
use Rattle.layer_chain.specs.Streams.{first_of}
use Rattle.layer_chain.proofs.Streams.{first_of-none}

-- a new stage behind its adjustment stands for nothing of any stream
pub new_adjusted : {X : Type 0} (l : Layout X) (d a : ℕ) (s : ℕ → X) (n : ℕ) (line : List X) (held : ℕ → List X) → AdjustedStandsFor l d line held [] → d ≡ a → n ≡ 0 → AdjustedStandsFor l a line held (first_of s n)
new_adjusted l d a s n line held stands is none = rw (sym is, first_of-none s n none) stands

pub new_encoder : (t : ℕ) (e : Encoder) (f : ℕ → ℕ) → inner.StandsFor e [] → inner.StandsFor e (first_of f (204 * t * 0))
new_encoder t e f stands = subst (λ h. inner.StandsFor e h) (sym (first_of-none f (204 * t * 0) (omega arith))) stands
