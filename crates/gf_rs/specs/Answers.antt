-- What the outer decoder answers.
use Rattle.std.specs.Prelude.{◌≡◌, ℕ, List}
use Rattle.gf_rs.specs.declared.nearest.Nearest.{Nearest}
use Rattle.gf_rs.specs.declared.nearest.Nearest.TheVariants.{Codeword, Far}
use Rattle.gf_rs.specs.Codewords.{differing, IsNear}

-- the new word is a codeword near the old one, and so many bytes changed; or none is near, and the word is as before
abbrev pub IsAnswer : ℕ → List ℕ → List ℕ → Nearest → Type 0
IsAnswer roots old new (Codeword changed) = IsNear roots old new × (changed ≡ differing old new)
IsAnswer roots old new Far = (new ≡ old) × ((near : List ℕ) → IsNear roots old near → ⊥)
