-- The items that the delay lines of a layer's coder and of its decoder hold.
use Rattle.std.specs.Prelude.{ℕ, zero, suc, ◌+◌, List, [], length, slice_index_or}
use Rattle.isdbt_base.specs.Numbers.{cell_bits}
use Rattle.time_inter.specs.LayerStage as time
use Rattle.layer_chain.specs.BitPaths as bit
use Rattle.layer_chain.specs.LayerCoder.{layer_of, cells_of}
use Rattle.layer_chain.specs.declared.layer_coder.LayerCoder.{LayerCoder}
use Rattle.time_inter.specs.LayerPartner as partner
use Rattle.layer_chain.specs.BitDeinterleaver as late_bit
use Rattle.layer_chain.specs.LayerDecoder as decoder
use Rattle.layer_chain.specs.declared.layer_decoder.LayerDecoder.{LayerDecoder}

-- the items that the first so many paths hold
unfoldable pub items_in : {X : Type 0} → (ℕ → List X) → ℕ → ℕ
items_in held zero = 0
items_in held (suc n) = items_in held n + length (held n)

-- in the adjustment and in the stage behind it
abbrev pub bytes_in : LayerCoder → ℕ
bytes_in s = length s.coded.interleaver.line + items_in (λ p. slice_index_or s.coded.interleaver.stage p []) 12

-- the line of a bit has the adjustment's delay and its own, and of each number that it holds this bit alone is still to go out
abbrev pub bits_in : LayerCoder → ℕ
bits_in s = items_in (λ r. slice_index_or (bit.lines_of s.bits) r []) (cell_bits (layer_of s).modulation)

abbrev pub cells_in : LayerCoder → ℕ
cells_in s = length s.cells.line + items_in (time.held_of s.cells.stage) (cells_of s)

-- a decoder has no adjustments
abbrev pub decoder_bytes : LayerDecoder → ℕ
decoder_bytes s = items_in (λ p. slice_index_or s.deinterleaver p []) 12

abbrev pub decoder_bits : LayerDecoder → ℕ
decoder_bits s = items_in (late_bit.held_of s.reader.bits) (cell_bits (decoder.layer_of s).modulation)

abbrev pub decoder_cells : LayerDecoder → ℕ
decoder_cells s = items_in (partner.held_of s.reader.cells) (decoder.cells_of s)
