-- The outer words of the units of a frame.
use Rattle.std.specs.Prelude.{ℕ, ◌+◌, ◌*◌, List, ◌∷◌, map, slice_index, bit_xor}
use Rattle.std.specs.List.{range_with_len}
use Rattle.layer_chain.specs.SentBytes.{dispersal_byte}

-- the outer word of unit j of a frame of t units: the sync byte, and the unit's first 203 bytes without the dispersal
unfoldable pub word_in : ℕ → List ℕ → ℕ → List ℕ
word_in t units j = 0x47 ∷ map (λ a. bit_xor (slice_index units (204 * j + a)) (dispersal_byte t (204 * j + a))) (range_with_len 0 203)
