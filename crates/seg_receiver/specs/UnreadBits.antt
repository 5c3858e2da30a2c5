-- Streams of cells that differ in nothing that is read.
use Rattle.std.specs.Prelude.{◌≡◌, ℕ, ◌+◌, ◌*◌, ◌%◌, ◌<◌, List, length, slice_index}
use Rattle.isdbt_base.specs.Numbers.{frame_symbols}
use Rattle.seg_receiver.specs.CellStream.{View, symbol_size}

-- the byte at which symbol k of frame f begins in a stream, of which this is the view
abbrev pub symbol_in : View → ℕ → ℕ → ℕ
symbol_in v f k = v.starts f + v.head + k * symbol_size (v.mode f)

-- two streams, the first of which has this view, differ at most in bits that no command reads: bit B0 of words, the seven upper bits of each symbol's first byte, and the two last bytes of heads
pub record DifferUnread (v : View) (s t : List ℕ) : Type 0 where
  pub size : length s ≡ length t
  pub heads : (f i : ℕ) → i < v.head → i < 6 → slice_index s (v.starts f + i) ≡ slice_index t (v.starts f + i)
  pub bits : (f k : ℕ) → 0 < k → k < frame_symbols → slice_index s (symbol_in v f k) % 2 ≡ slice_index t (symbol_in v f k) % 2
  pub cells : (f k i : ℕ) → k < frame_symbols → 0 < i → i < symbol_size (v.mode f) → slice_index s (symbol_in v f k + i) ≡ slice_index t (symbol_in v f k + i)
