-- What an encoder keeps of the bytes that it was fed.
use Rattle.std.specs.Prelude.{◌≡◌, ℕ, ◌*◌, ◌/◌, ◌%◌, ◌^◌, ◌<◌, Bool, List, length, slice_index}
use Rattle.isdbt_base.specs.declared.kinds.Rate.{Rate}
use Rattle.isdbt_base.specs.Numbers.{rate_steps, rate_bits}
use Rattle.conv_punct.specs.declared.encoder.Encoder.{Encoder}
use Rattle.conv_punct.specs.CodedBits.{bit_of}
use Rattle.conv_punct.specs.MotherCode.{AreNewest}

-- the rate that an encoder is for
abbrev pub rate_of : Encoder → Rate
rate_of encoder = encoder.rate

-- bit i of a list of bytes
abbrev pub bits_of : List ℕ → ℕ → Bool
bits_of bytes = bit_of (λ k. slice_index bytes k)

-- a stream of bytes begins with a list
abbrev pub BeginsWith : (ℕ → ℕ) → List ℕ → Type 0
BeginsWith stream bytes = (k : ℕ) → k < length bytes → stream k ≡ slice_index bytes k

-- how many coded bits so many bytes have whose steps are whole patterns
abbrev pub coded_size : Rate → ℕ → ℕ
coded_size rate bytes = rate_bits rate * (8 * bytes / rate_steps rate)

-- an encoder that was fed these bytes: the pattern begins anew, and the six newest inputs are the bytes' last bits
pub record StandsFor (state : Encoder) (fed : List ℕ) : Type 0 where
  pub step : 8 * length fed % rate_steps (rate_of state) ≡ 0
  pub newest : AreNewest state.newest 6 (bits_of fed) (8 * length fed)
  pub only : state.newest < 2 ^ 6
