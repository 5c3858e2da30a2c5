-- New stages, whose paths are as many as the carriers.
use Rattle.std.proofs.Common.{◌≡◌, ℕ, ◌+◌, ◌-◌, ◌*◌, ◌≤◌, List, length, refl, sym, ap, ◌∙◌, subst, arith}
use Rattle.std.proofs.Math.Nat.{mul-add}
use Rattle.delay_line.specs.Stages.{Layout, ArePartners, IsBankOf, new_bank}
use Rattle.delay_line.proofs.BankLaws.{IsBankOf-new}
use Rattle.time_inter.specs.CellPlaces.{carrier_delay}
use Rattle.time_inter.specs.Layouts.{inter_layout, deinter_layout, IsSegmentStage}

module _ (layout : ℕ → Layout ℕ) (n : ℕ) (bank : List (List ℕ)) where
  bank_of : bank ≡ new_bank (layout n) → IsBankOf (layout n) bank
  bank_of is = subst (λ b. IsBankOf (layout n) b) (sym is) (IsBankOf-new (layout n))

  pub length-new : bank ≡ new_bank (layout n) → (layout n).paths ≡ n → length bank ≡ n
  length-new is paths = (bank_of is).paths ∙ paths

  -- the invariant of a stage with so many paths
  pub new-invariant : (size : ℕ) → bank ≡ new_bank (layout n) → (layout n).paths ≡ n → size ≤ 16 → 1 ≤ n → n ≤ 384 → IsSegmentStage size (length bank) × IsBankOf (layout (length bank)) bank
  new-invariant size is paths small least most =
      let len = length-new is paths in (
        record { most_length = small; least_carriers = omega (arith, len, least); most_carriers = omega (arith, len, most) },
        subst (λ k. IsBankOf (layout k) bank) (sym len) (bank_of is),
      )

-- two stages for as many carriers are partners
pub partners : (size n : ℕ) (inter deinter : List (List ℕ)) → length inter ≡ n → length deinter ≡ n → ArePartners (inter_layout size (length inter)) (deinter_layout size (length deinter))
partners size n inter deinter e f = record { delay = refl; zero = refl; paths = f ∙ sym e; sums = λ p h. sum p }
  where
    sum : (p : ℕ) → size * carrier_delay p + size * (95 - carrier_delay p) ≡ size * 95
    sum p = sym (mul-add size (carrier_delay p) (95 - carrier_delay p)) ∙ ap (λ k. size * k) (let e : carrier_delay p + (95 - carrier_delay p) ≡ 95 = omega arith in e)
