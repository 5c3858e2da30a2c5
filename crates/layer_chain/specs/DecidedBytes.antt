-- What is kept of the bits that were read of a layer: the inner decoder's state, and decided bytes that are not taken yet.
use Rattle.std.specs.Prelude.{◌≡◌, ℕ, ◌+◌, ◌-◌, ◌*◌, ◌%◌, ◌<◌, ◌≤◌, Bool, false, List, [], slice_index, slice_index_or}
use Rattle.isdbt_base.specs.declared.kinds.Rate.{Rate}
use Rattle.delay_line.specs.Stages as stages
use Rattle.energy_prbs.specs.Sequence.{byte_of_bits}
use Rattle.byte_inter.specs.Layouts.{deinter_layout}
use Rattle.viterbi_hard.specs.LeastPath.{decided_bit}
use Rattle.viterbi_hard.specs.StandsFor as inner
use Rattle.layer_chain.specs.Streams.{first_of}
use Rattle.layer_chain.specs.declared.decided_bytes.DecidedBytes.{DecidedBytes}

-- the inner rate
abbrev pub rate_of : DecidedBytes → Rate
rate_of s = inner.rate_of s.decoder

-- read bits of a symbol, steps of the decoder in a symbol, and bytes of a frame
abbrev pub bits_of_symbol : DecidedBytes → ℕ
bits_of_symbol s = s.symbol_bits

abbrev pub steps_of_symbol : DecidedBytes → ℕ
steps_of_symbol s = inner.steps_in (rate_of s) s.symbol_bits

abbrev pub frame_of : DecidedBytes → ℕ
frame_of s = s.frame

-- decided byte q, its first bit the highest
abbrev pub decided_byte : Rate → (ℕ → Bool) → ℕ → ℕ
decided_byte rate read q = byte_of_bits (λ i. decided_bit rate read (8 * q + i))

-- the bits of so many steps were read; the bytes that are kept begin with byte `first`, and what is decided behind them fills no byte yet
pub record StandsFor (s : DecidedBytes) (read : ℕ → Bool) (steps first : ℕ) : Type 0 where
  pub decoder_stands : inner.StandsFor s.decoder read steps
  pub count : 8 * (first + s.filled) + s.pending ≡ steps - 127
  pub bytes_are : (i : ℕ) → i < s.filled → slice_index_or s.bytes.items i 0 ≡ decided_byte (rate_of s) read (first + i)
  pub bits_are : (i : ℕ) → i < s.pending → slice_index_or s.bits.items i false ≡ decided_bit (rate_of s) read (8 * (first + s.filled) + i)

-- from byte `first` on a frame of decided bytes went through byte deinterleaving
pub record Taken (s : DecidedBytes) (read : ℕ → Bool) (steps first size : ℕ) (deinterleaver : List (List ℕ)) (units : List ℕ) : Type 0 where
  pub decided_stands : StandsFor s read steps (first + size)
  pub bytes_stand : stages.StandsFor (deinter_layout 12 17) (λ p. slice_index_or deinterleaver p []) (first_of (decided_byte (rate_of s) read) (first + size))
  pub units_are : (n : ℕ) → n < size → slice_index units n ≡ stages.stage_item (deinter_layout 12 17) (decided_byte (rate_of s) read) (first + n)

-- where a frame of decided bytes is there, it is taken through byte deinterleaving
abbrev pub TakesFrame : DecidedBytes → List (List ℕ) → DecidedBytes → List (List ℕ) → List ℕ → Type 0
TakesFrame s deinterleaver t deinterleaver' units =
    (read : ℕ → Bool) (steps first : ℕ) → StandsFor s read steps first → 8 * (first + frame_of s) + 127 ≤ steps → first % 12 ≡ 0
    → stages.StandsFor (deinter_layout 12 17) (λ p. slice_index_or deinterleaver p []) (first_of (decided_byte (rate_of s) read) first)
    → Taken t read steps first (frame_of s) deinterleaver' units
