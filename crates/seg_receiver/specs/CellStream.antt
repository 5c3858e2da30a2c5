-- A stream of cells as a receiver sees it: the TMCC words of its frames, and the cells by frame, symbol, segment and carrier. The layout is that of the cells that are sent.
use Rattle.std.specs.Prelude.{◌≡◌, ◌≤◌, ◌<◌, ℕ, zero, suc, ◌+◌, ◌*◌, ◌%◌, Bool, true, false, ◌==◌, Option, None, Result, Ok, Err, List, length, take, drop, map, slice_index}
use Rattle.std.specs.List.{range_with_len}
use Rattle.std.specs.Int.{w8, cast_signed}
use Rattle.isdbt_base.specs.declared.kinds.Mode.{Mode}
use Rattle.isdbt_base.specs.declared.kinds.Mode.TheVariants.{M1}
use Rattle.isdbt_base.specs.declared.kinds.Guard.{Guard}
use Rattle.isdbt_base.specs.declared.kinds.Guard.TheVariants.{G4}
use Rattle.isdbt_base.specs.declared.head.HeadFault.{HeadFault}
use Rattle.isdbt_base.specs.declared.stream.Writing.{Writing}
use Rattle.isdbt_base.specs.declared.stream.Form.{Form}
use Rattle.isdbt_base.specs.declared.stream.Form.TheVariants.{V1, V2}
use Rattle.isdbt_base.specs.declared.stream.Reading.{Reading}
use Rattle.isdbt_base.specs.Heads.{head_size, head_read}
use Rattle.isdbt_base.specs.Numbers.{frame_symbols, carriers}
use Rattle.cell_map.specs.declared.cell.Cell.{Cell}
use Rattle.tmcc_fix.specs.Corrected.{corrected}
use Rattle.coder_core.specs.SentCells.{frame_size}
use Rattle.seg_receiver.specs.Epochs.{epoch_head}
use Rattle.seg_receiver.specs.HeadChecks.{bad_byte}

-- bytes of a symbol
abbrev pub symbol_size : Mode → ℕ
symbol_size mode = 1 + 26 * carriers mode

-- the byte of the stream at which symbol k of frame f begins
abbrev pub symbol_start : Mode → ℕ → ℕ → ℕ
symbol_start mode f k = f * frame_size mode + k * symbol_size mode

-- the TMCC bit of a symbol: the lowest of its first byte, whatever the others are
abbrev pub tmcc_bit : Mode → List ℕ → ℕ → ℕ → Bool
tmcc_bit mode stream f k = slice_index stream (symbol_start mode f k) % 2 == 1

-- the TMCC word of frame f, as it comes
unfoldable pub stream_word : Mode → List ℕ → ℕ → List Bool
stream_word mode stream f = map (tmcc_bit mode stream f) (range_with_len 0 frame_symbols)

-- a TMCC word as it is read, by whether words are corrected
abbrev pub word_by : Bool → List Bool → List Bool
word_by false came = came
word_by true came = corrected came

-- cells by frame, symbol, segment and carrier
abbrev pub FrameCells : Type 0
FrameCells = ℕ → ℕ → ℕ → ℕ → Cell

-- the cell at a segment and carrier of symbol k of frame f
unfoldable pub stream_cell : Mode → List ℕ → FrameCells
stream_cell mode stream f k segment carrier = record { i = cast_signed w8 (slice_index stream at); q = cast_signed w8 (slice_index stream (at + 1)) }
  where
    at : ℕ
    at = symbol_start mode f k + 1 + 2 * (segment * carriers mode + carrier)

-- the cells of segment 0, by frame, symbol and carrier
abbrev pub segment_cells : FrameCells → ℕ → ℕ → ℕ → Cell
segment_cells cell g k carrier = cell g k 0 carrier

-- cells that are alike in the frames up to f, at each place of a frame
abbrev pub CellsAgreeUpTo : Mode → ℕ → FrameCells → FrameCells → Type 0
CellsAgreeUpTo mode f cell other = (g k segment carrier : ℕ) → g ≤ f → k < frame_symbols → segment < 13 → carrier < carriers mode → cell g k segment carrier ≡ other g k segment carrier

-- ---- views

-- a stream of cells, however its frames are laid: its bytes, the byte at which each frame begins, the bytes of a frame's head, the mode and the guard interval of each frame, whether words are corrected, the TMCC word of each frame as it came and as it is read, the byte at which its head is refused, and the cells
pub record View : Type 0 where
  pub size : ℕ
  pub starts : ℕ → ℕ
  pub head : ℕ
  pub mode : ℕ → Mode
  pub guard : ℕ → Guard
  pub fix : Bool
  pub came : ℕ → List Bool
  pub word : ℕ → List Bool
  pub bad_head : ℕ → Option ℕ
  pub cell : FrameCells

-- the first version of the stream: frames of one mode and guard interval, one behind the other with no heads
abbrev pub first_version : Bool → Mode → Guard → List ℕ → View
first_version fix mode guard stream = record {
  size = length stream;
  starts = λ f. f * frame_size mode;
  head = 0;
  mode = λ f. mode;
  guard = λ f. guard;
  fix = fix;
  came = stream_word mode stream;
  word = λ f. word_by fix (stream_word mode stream f);
  bad_head = λ f. None;
  cell = stream_cell mode stream;
}

-- ---- the second version of the stream: each frame has a head, which says its mode and guard interval

-- what the head says of the frame that begins with these bytes
abbrev pub head_said : List ℕ → Result (Mode × Guard) HeadFault
head_said bytes = head_read (take head_size bytes)

-- the bytes of a frame of which the head says this; of one that is refused they are one more than there are, so that it is never whole
abbrev pub bytes_said : ℕ → Result (Mode × Guard) HeadFault → ℕ
bytes_said count (Ok said) = head_size + frame_size said.0
bytes_said count (Err fault) = count + 1

-- the byte at which frame f begins: where the frame before ends
unfoldable pub second_start : List ℕ → ℕ → ℕ
second_start stream zero = 0
second_start stream (suc f) = second_start stream f + bytes_said (length (drop (second_start stream f) stream)) (head_said (drop (second_start stream f) stream))

-- the bytes from frame f on
abbrev pub bytes_from : List ℕ → ℕ → List ℕ
bytes_from stream f = drop (second_start stream f) stream

-- mode and guard interval as a head says them; of one that is refused any
abbrev pub mode_said : Result (Mode × Guard) HeadFault → Mode
mode_said (Ok said) = said.0
mode_said (Err fault) = M1

abbrev pub guard_said : Result (Mode × Guard) HeadFault → Guard
guard_said (Ok said) = said.1
guard_said (Err fault) = G4

-- the symbols of frame f and what follows them
abbrev pub symbols_from : List ℕ → ℕ → List ℕ
symbols_from stream f = drop head_size (bytes_from stream f)

-- mode and guard interval of frame f, and its TMCC word as it comes and as it is read
abbrev pub second_mode : List ℕ → ℕ → Mode
second_mode stream f = mode_said (head_said (bytes_from stream f))

abbrev pub second_guard : List ℕ → ℕ → Guard
second_guard stream f = guard_said (head_said (bytes_from stream f))

abbrev pub second_came : List ℕ → ℕ → List Bool
second_came stream f = stream_word (second_mode stream f) (symbols_from stream f) 0

abbrev pub second_word : Bool → List ℕ → ℕ → List Bool
second_word fix stream f = word_by fix (second_came stream f)

-- what the head of frame f must repeat
abbrev pub second_due : Bool → List ℕ → ℕ → Option (Mode × Guard)
second_due fix stream = epoch_head (second_word fix stream) (second_mode stream) (second_guard stream)

abbrev pub second_version : Bool → List ℕ → View
second_version fix stream = record {
  size = length stream;
  starts = second_start stream;
  head = head_size;
  mode = second_mode stream;
  guard = second_guard stream;
  fix = fix;
  came = second_came stream;
  word = second_word fix stream;
  bad_head = λ f. bad_byte (second_due fix stream f) (take head_size (bytes_from stream f));
  cell = λ f. stream_cell (second_mode stream f) (symbols_from stream f) 0;
}

-- ---- either version

-- the view of a stream in a version, by whether words are corrected
abbrev pub version_of : Bool → Form → List ℕ → View
version_of fix (V1 mode guard) stream = first_version fix mode guard stream
version_of fix V2 stream = second_version fix stream

-- the view of a stream that is read so
abbrev pub view_of : Reading → List ℕ → View
view_of how stream = version_of how.fix how.form stream

-- how a stream of a version is written
abbrev pub writing_of : Form → Writing
writing_of (V1 mode guard) = record { v2 = false }
writing_of V2 = record { v2 = true }

-- ---- laws of views

-- no head of the first frames is refused
abbrev pub NoBadHead : View → ℕ → Type 0
NoBadHead v count = (f : ℕ) → f < count → v.bad_head f ≡ None

-- each of the first frames ends where the next begins
abbrev pub AreInRow : View → ℕ → Type 0
AreInRow v count = (f : ℕ) → f < count → v.starts (f + 1) ≡ v.starts f + (v.head + frame_size (v.mode f))

-- two views have the same mode and guard interval at frame f, and the same words and cells in the frames up to it
pub record AgreeUpTo (f : ℕ) (v w : View) : Type 0 where
  pub same_mode : v.mode f ≡ w.mode f
  pub same_guard : v.guard f ≡ w.guard f
  pub words : (g : ℕ) → g ≤ f → v.word g ≡ w.word g
  pub cells : CellsAgreeUpTo (v.mode f) f v.cell w.cell
