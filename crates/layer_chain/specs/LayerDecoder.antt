-- What the decoder of a layer keeps of the cells that it has seen.
use Rattle.std.specs.Prelude.{◌≡◌, ℕ, ◌+◌, ◌-◌, ◌*◌, [], min, slice_index_or}
use Rattle.isdbt_base.specs.declared.kinds.Mode.{Mode}
use Rattle.isdbt_base.specs.LayerParameters.{LayerParameters}
use Rattle.isdbt_base.specs.Numbers.{layer_cells, packets_per_frame, layer_delay, frames_over}
use Rattle.delay_line.specs.Stages as stages
use Rattle.byte_inter.specs.Layouts.{deinter_layout}
use Rattle.viterbi_hard.specs.StandsFor.{steps_in}
use Rattle.layer_chain.specs.Streams.{first_of}
use Rattle.layer_chain.specs.LayerCells.{read_bit}
use Rattle.layer_chain.specs.SymbolReader as reader
use Rattle.layer_chain.specs.SymbolReader.{bits_of_symbol, read_delay}
use Rattle.layer_chain.specs.DecidedBytes as decided
use Rattle.layer_chain.specs.DecidedBytes.{decided_byte}
use Rattle.layer_chain.specs.declared.layer_decoder.LayerDecoder.{LayerDecoder}

-- the layer that is received, and its mode
abbrev pub mode_of : LayerDecoder → Mode
mode_of s = reader.mode_of s.reader

abbrev pub layer_of : LayerDecoder → LayerParameters
layer_of s = reader.layer_of s.reader

-- cells of the layer in a symbol, and packets in a frame
abbrev pub cells_of : LayerDecoder → ℕ
cells_of s = layer_cells (mode_of s) (layer_of s)

abbrev pub packets_of : LayerDecoder → ℕ
packets_of s = packets_per_frame (mode_of s) (layer_of s)

-- the symbols since the last frame was taken
abbrev pub symbols_of : LayerDecoder → ℕ
symbols_of s = s.symbols

-- the steps of the inner decoder after so many symbols of an epoch: the first symbols bear no coded bits yet
abbrev pub steps_after : Mode → LayerParameters → ℕ → ℕ
steps_after mode l symbols = steps_in l.rate (bits_of_symbol mode l) * (symbols - read_delay mode l)

-- the decided bytes that went into byte deinterleaving when so many frames were taken
abbrev pub bytes_after : Mode → LayerParameters → ℕ → ℕ
bytes_after mode l frames = 204 * packets_per_frame mode l * (frames - (frames_over mode l.depth + 1))

-- each part of the decoder of a layer is as the symbols since the epoch's start leave it, of which so many frames were taken
pub record PartsStandFor (mode : Mode) (l : LayerParameters) (s : LayerDecoder) (cell : ℕ → ℕ → ℕ) (frames : ℕ) : Type 0 where
  pub counted : s.frames ≡ min frames (layer_delay mode l)
  pub reader_stands : reader.StandsFor s.reader cell (204 * frames + s.symbols)
  pub decided_stands : decided.StandsFor s.decided (read_bit mode l cell) (steps_after mode l (204 * frames + s.symbols)) (bytes_after mode l frames)
  pub bytes_stand : stages.StandsFor (deinter_layout 12 17) (λ p. slice_index_or s.deinterleaver p []) (first_of (decided_byte l.rate (read_bit mode l cell)) (bytes_after mode l frames))

abbrev pub StandsFor : LayerDecoder → (ℕ → ℕ → ℕ) → ℕ → Type 0
StandsFor s cell frames = PartsStandFor (mode_of s) (layer_of s) s cell frames
