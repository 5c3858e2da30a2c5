-- Laws of the sequence: the recurrence, the bits before a place, a byte by its bits.
use Rattle.std.proofs.Common.{◌≡◌, ℕ, zero, suc, ◌+◌, ◌-◌, ◌<◌, ◌≤◌, false, refl, ap, arith, inl, inr, sym, ◌∙◌, get_or-take}
use Rattle.std.specs.Prelude.{slice_index_or}
use Rattle.std.proofs.lemmas.Bool.Decides.{leb_tells}
use Rattle.energy_prbs.specs.Sequence.{bit_sum, initial_bits, before_bit, sequence_bit, earlier_bit}

-- the two cases of an earlier bit
pub earlier_bit-sent : (n d : ℕ) → d ≤ n → earlier_bit n d ≡ sequence_bit (n - d)
earlier_bit-sent n d h =
    elim (leb_tells d n) [
      | inl within ↦ rw within.0 refl
      | inr beyond ↦ absurd (omega (arith, beyond.1))
    ]

earlier_bit-initial : (n d : ℕ) → n < d → earlier_bit n d ≡ slice_index_or initial_bits (d - 1 - n) false
earlier_bit-initial n d h =
    elim (leb_tells d n) [
      | inl within ↦ absurd (omega (arith, within.1))
      | inr beyond ↦ rw beyond.0 refl
    ]

-- places before two bits that are equally far apart are alike
pub earlier_bit-shift : (n d k : ℕ) → 0 < d → earlier_bit (n + k) (d + k) ≡ earlier_bit n d
earlier_bit-shift n d k h =
    elim (leb_tells d n) [
      | inl within ↦ (let e : n + k - (d + k) ≡ n - d = omega arith in earlier_bit-sent (n + k) (d + k) (omega (arith, within.1)) ∙ ap sequence_bit e ∙ sym (earlier_bit-sent n d within.1))
      | inr beyond ↦ (let e : d + k - 1 - (n + k) ≡ d - 1 - n = omega (arith, beyond.1) in earlier_bit-initial (n + k) (d + k) (omega (arith, beyond.1)) ∙ ap (λ m. slice_index_or initial_bits m false) e ∙ sym (earlier_bit-initial n d (omega (arith, beyond.1))))
    ]

pub before_bit-earlier : (n d : ℕ) → d < 15 → slice_index_or (before_bit n) d false ≡ earlier_bit n (d + 1)
unfolding before_bit sequence_bit
before_bit-earlier zero d h = (let e : d ≡ d + 1 - 1 - 0 = omega arith in ap (λ m. slice_index_or initial_bits m false) e) ∙ sym (earlier_bit-initial 0 (d + 1) (omega arith))
before_bit-earlier (suc n) zero h = (let e : n ≡ suc n - 1 = omega arith in ap sequence_bit e) ∙ sym (earlier_bit-sent (suc n) 1 (omega arith))
before_bit-earlier (suc n) (suc d) h =
    get_or-take 14 (before_bit n) d false (omega arith)
    ∙ before_bit-earlier n d (omega arith)
    ∙ sym (earlier_bit-shift n (d + 1) 1 (omega arith))
    ∙ (let m : n + 1 ≡ suc n = omega arith in let e : d + 1 + 1 ≡ suc d + 1 = omega arith in ap (λ k. earlier_bit k (d + 1 + 1)) m ∙ ap (earlier_bit (suc n)) e)

pub sequence_bit-recurrence : (n : ℕ) → sequence_bit n ≡ bit_sum (earlier_bit n 14) (earlier_bit n 15)
unfolding before_bit sequence_bit
sequence_bit-recurrence n = ap (λ a. bit_sum a (slice_index_or (before_bit n) 14 false)) (before_bit-earlier n 13 (omega arith)) ∙ ap (λ b. bit_sum (earlier_bit n 14) b) (before_bit-earlier n 14 (omega arith))
