-- Each check covers an even number of the ones of the generator's shifts, by computation.
use Rattle.std.proofs.Common.{◌≡◌, ℕ, ◌-◌, ◌*◌, ◌^◌, ◌%◌, ◌<◌, refl, Bool, true}
use Rattle.std.specs.Prelude.{sum_by, ◌==◌, nat_lt, if◌then◌else◌}
use Rattle.std.specs.Int.{bit_at}
use Rattle.std.proofs.lemmas.Bool.{agree_below, agree_below_at, eqb-true}
use Rattle.tmcc_word.specs.CyclicCode.{generator}
use Rattle.tmcc_fix.specs.declared.checks.TheConstants.{RESIDUES}
use Rattle.tmcc_fix.specs.Checks.{place_of}

-- the bit of a place of a polynomial of 184 coefficients, the highest first
abbrev pub coefficient : ℕ → ℕ → ℕ
coefficient p place = if nat_lt place 184 then bit_at p (183 - place) else 0

-- how many ones of a polynomial a check covers, modulo 2
abbrev pub polynomial_parity : ℕ → ℕ → ℕ
polynomial_parity p shift = sum_by (λ residue. coefficient p (place_of shift residue)) RESIDUES % 2

abbrev vanishes : ℕ → Bool
vanishes p = agree_below (λ s. polynomial_parity p s == 0) (λ _. true) 273

-- each check vanishes on each shift of the generator
generator_test : agree_below (λ k. vanishes (generator * 2 ^ k)) (λ _. true) 102 ≡ true
generator_test = refl

pub generator-parity : (k s : ℕ) → k < 102 → s < 273 → polynomial_parity (generator * 2 ^ k) s ≡ 0
generator-parity k s hk hs =
    let shift = agree_below_at (λ k. vanishes (generator * 2 ^ k)) (λ _. true) 102 k generator_test hk in
    eqb-true _ _ (agree_below_at (λ s. polynomial_parity (generator * 2 ^ k) s == 0) (λ _. true) 273 s shift hs)
