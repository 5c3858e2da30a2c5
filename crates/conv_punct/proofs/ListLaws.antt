-- Coded bits that are put into a list, part after part.
use Rattle.std.proofs.Common.{◌≡◌, ℕ, ◌+◌, ◌-◌, Bool, false, refl, ap, arith, inl, inr, ◌∙◌, List, get_or}
use Rattle.std.proofs.lemmas.Bool.{cases_lt}
use Rattle.isdbt_base.specs.declared.kinds.Rate.{Rate}
use Rattle.conv_punct.specs.CodedBits.{coded_bit}
use Rattle.conv_punct.specs.MotherCode.{AreCoded, ChangesOnly}

pub ChangesOnly-none : (bits : List Bool) (at : ℕ) → ChangesOnly bits bits at 0
ChangesOnly-none bits at = record { before = λ j h. refl; behind = λ j h. refl }

pub ChangesOnly-more : (first second third : List Bool) (at count end more : ℕ) → end ≡ at + count → ChangesOnly first second at count → ChangesOnly second third end more → ChangesOnly first third at (count + more)
ChangesOnly-more first second third at count end more e f g = record {
  before = λ j h. g.before j (omega arith) ∙ f.before j h;
  behind = λ j h. g.behind j (omega arith) ∙ f.behind j (omega arith);
}

pub AreCoded-more : (rate : Rate) (u : ℕ → Bool) (from next : ℕ) (old new : List Bool) (at count end more : ℕ) → end ≡ at + count → next ≡ from + count → ChangesOnly old new end more → AreCoded rate u from old at count → AreCoded rate u next new end more → AreCoded rate u from new at (count + more)
AreCoded-more rate u from next old new at count end more e f changes first second j h =
    elim (cases_lt j count) [
      | inl below ↦ changes.before (at + j) (omega arith) ∙ first j below
      | inr above ↦ (let place : at + j ≡ end + (j - count) = omega arith in
          let number : next + (j - count) ≡ from + j = omega arith in
          ap (λ m. get_or new m false) place ∙ second (j - count) (omega arith) ∙ ap (coded_bit rate u) number)
    ]
