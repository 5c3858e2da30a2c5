-- The inner code: a punctured convolutional code of mother rate 1/2 (ARIB STD-B31 chapter 3; generators 171 and 133 octal).
use Rattle.std.specs.Prelude.{ℕ, ◌+◌, ◌-◌, ◌*◌, ◌/◌, ◌%◌, Bool, false, if◌then◌else◌, nat_le, nat_lt, ◌==◌, List, [], ◌∷◌, slice_index_or, count_by}
use Rattle.std.specs.Int.{bit_at}
use Rattle.isdbt_base.specs.declared.kinds.Rate.{Rate}
use Rattle.isdbt_base.specs.declared.kinds.Rate.TheVariants.{R12, R23, R34, R56, R78}
use Rattle.isdbt_base.specs.Bits.{◌⊕◌}
use Rattle.isdbt_base.specs.Numbers.{rate_steps, rate_bits}

-- bit i of a stream of bytes, the highest bit of a byte first
abbrev pub bit_of : (ℕ → ℕ) → ℕ → Bool
bit_of bytes i = bit_at (bytes (i / 8)) (7 - i % 8) == 1

-- the input d steps before step i, and 0 before the first
abbrev pub earlier_bit : (ℕ → Bool) → ℕ → ℕ → Bool
earlier_bit u i d = if nat_le d i then u (i - d) else false

-- the two outputs of the mother code at step i
abbrev pub x_bit : (ℕ → Bool) → ℕ → Bool
x_bit u i = u i ⊕ earlier_bit u i 1 ⊕ earlier_bit u i 2 ⊕ earlier_bit u i 3 ⊕ earlier_bit u i 6

abbrev pub y_bit : (ℕ → Bool) → ℕ → Bool
y_bit u i = u i ⊕ earlier_bit u i 2 ⊕ earlier_bit u i 3 ⊕ earlier_bit u i 5 ⊕ earlier_bit u i 6

-- an output that is sent: x or y of a step, the first step being 0
pub data Output : Type 0 where
  x_of : ℕ → Output
  y_of : ℕ → Output

-- the puncturing pattern: the outputs that are sent of each so many steps
abbrev pub pattern : Rate → List Output
pattern R12 = x_of 0 ∷ y_of 0 ∷ []
pattern R23 = x_of 0 ∷ y_of 0 ∷ y_of 1 ∷ []
pattern R34 = x_of 0 ∷ y_of 0 ∷ y_of 1 ∷ x_of 2 ∷ []
pattern R56 = x_of 0 ∷ y_of 0 ∷ y_of 1 ∷ x_of 2 ∷ y_of 3 ∷ x_of 4 ∷ []
pattern R78 = x_of 0 ∷ y_of 0 ∷ y_of 1 ∷ y_of 2 ∷ y_of 3 ∷ x_of 4 ∷ y_of 5 ∷ x_of 6 ∷ []

-- the output so named in the pattern that begins at a step
abbrev pub output_bit : (ℕ → Bool) → ℕ → Output → Bool
output_bit u start (x_of a) = x_bit u (start + a)
output_bit u start (y_of a) = y_bit u (start + a)

-- output r of the pattern
abbrev pub output_at : Rate → ℕ → Output
output_at rate r = slice_index_or (pattern rate) r (x_of 0)

-- coded bit c of the inputs u
unfoldable pub coded_bit : Rate → (ℕ → Bool) → ℕ → Bool
coded_bit rate u c = output_bit u (rate_steps rate * (c / rate_bits rate)) (output_at rate (c % rate_bits rate))

-- the step of an output in its pattern
abbrev pub step_of : Output → ℕ
step_of (x_of a) = a
step_of (y_of a) = a

-- the step of coded bit c
abbrev pub coded_step : Rate → ℕ → ℕ
coded_step rate c = rate_steps rate * (c / rate_bits rate) + step_of (output_at rate (c % rate_bits rate))

-- how many outputs are sent of the first so many steps
abbrev pub coded_len : Rate → ℕ → ℕ
coded_len rate steps = rate_bits rate * (steps / rate_steps rate) + count_by (λ o. nat_lt (step_of o) (steps % rate_steps rate)) (pattern rate)
