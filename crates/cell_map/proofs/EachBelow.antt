-- Tests of each number below another.
use Rattle.std.proofs.Common.{◌≡◌, ℕ, zero, suc, ◌<◌, refl, Bool, true, false, arith, inl, inr, sym, subst}
use Rattle.std.specs.Prelude.{◌&&◌}
use Rattle.std.proofs.lemmas.Bool.Decides.{eqb_tells}

abbrev pub each_below : ℕ → (ℕ → Bool) → Bool
each_below zero test = true
each_below (suc n) test = test n && each_below n test

pub both : (a b : Bool) → (a && b) ≡ true → (a ≡ true) × (b ≡ true)
both true b e = (refl, e)
both false b e = cc

-- what is tested of each number below n holds of each
pub at_each : (n : ℕ) (test : ℕ → Bool) (k : ℕ) → each_below n test ≡ true → k < n → test k ≡ true
at_each zero test k e h = absurd (omega arith)
at_each (suc n) test k e h =
    let parts = both (test n) (each_below n test) e in
    elim (eqb_tells k n) [
      | inl same ↦ subst (λ m. test m ≡ true) (sym same.1) parts.0
      | inr other ↦ at_each n test k parts.1 (omega arith)
    ]
