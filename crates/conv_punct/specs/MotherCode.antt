-- Inputs and outputs of the mother code as the bits of numbers, and coded bits in a list.
use Rattle.std.specs.Prelude.{◌≡◌, ℕ, ◌+◌, ◌-◌, ◌<◌, ◌≤◌, ◌==◌, Bool, false, List, slice_index_or}
use Rattle.std.specs.Int.{bit_at}
use Rattle.isdbt_base.specs.declared.kinds.Rate.{Rate}
use Rattle.conv_punct.specs.declared.mother_code.MotherBits.{MotherBits}
use Rattle.conv_punct.specs.CodedBits.{earlier_bit, x_bit, y_bit, coded_bit}

-- bit d of a number, the lowest being bit 0
abbrev pub word_bit : ℕ → ℕ → Bool
word_bit n d = bit_at n d == 1

-- the low so many bits of a number are the inputs before step i, the newest lowest
abbrev pub AreNewest : ℕ → ℕ → (ℕ → Bool) → ℕ → Type 0
AreNewest word count u i = (d : ℕ) → d < count → word_bit word d ≡ earlier_bit u i (d + 1)

-- the low so many bits of two numbers are the outputs of the steps before step i, those of the newest lowest
pub record AreMotherBits (outputs : MotherBits) (count : ℕ) (u : ℕ → Bool) (i : ℕ) : Type 0 where
  pub x : (d : ℕ) → d < count → word_bit outputs.x d ≡ x_bit u (i - 1 - d)
  pub y : (d : ℕ) → d < count → word_bit outputs.y d ≡ y_bit u (i - 1 - d)

-- so many bits of a list, from a place on, are the coded bits from one of them on
abbrev pub AreCoded : Rate → (ℕ → Bool) → ℕ → List Bool → ℕ → ℕ → Type 0
AreCoded rate u first bits at count = (j : ℕ) → j < count → slice_index_or bits (at + j) false ≡ coded_bit rate u (first + j)

-- only so many bits of a list change, from a place on
pub record ChangesOnly (old new : List Bool) (at count : ℕ) : Type 0 where
  pub before : (j : ℕ) → j < at → slice_index_or new j false ≡ slice_index_or old j false
  pub behind : (j : ℕ) → at + count ≤ j → slice_index_or new j false ≡ slice_index_or old j false
