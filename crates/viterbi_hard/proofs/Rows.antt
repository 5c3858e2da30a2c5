-- Worked least paths.
use Rattle.std.proofs.Common.{◌≡◌, ℕ, refl, [], ◌∷◌, Bool, true, false, replicate}
use Rattle.std.specs.Prelude.{◌==◌}
use Rattle.isdbt_base.specs.declared.kinds.Rate.TheVariants.{R12, R34}
use Rattle.conv_punct.specs.CodedBits.{coded_bit}
use Rattle.conv_punct.specs.CodedCost.{coded_cost}
use Rattle.viterbi_hard.specs.LeastPath.{all_paths, first_least, least_path}

abbrev one_first : ℕ → Bool
one_first i = i == 0

-- the coded bits of 1000000 lead back to it
clean : least_path R12 (coded_bit R12 one_first) 7 ≡ false ∷ false ∷ false ∷ false ∷ false ∷ false ∷ true ∷ []
unfolding least_path coded_cost first_least all_paths coded_bit
clean = refl

nothing : least_path R34 (λ c. false) 6 ≡ replicate 6 false
unfolding least_path coded_cost first_least all_paths coded_bit
nothing = refl

-- one bit of a step alone is 1: both bits cost 1
tie : least_path R12 (λ c. c == 0) 1 ≡ false ∷ []
unfolding least_path coded_cost first_least all_paths coded_bit
tie = refl
