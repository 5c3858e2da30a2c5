-- Bytes and cells of a symbol in the bytes of a stream.
use Rattle.std.proofs.Common.{◌≡◌, ℕ, ◌+◌, ◌*◌, ◌%◌, ◌≤◌, ◌<◌, List, length, take, drop, refl, ap, sym, ◌∙◌, arith, Some}
use Rattle.std.specs.Prelude.{slice_index, ◌==◌}
use Rattle.std.specs.Int.{w8, cast_signed}
use Rattle.std.proofs.lemmas.Nat.{mul-add-lt}
use Rattle.std.proofs.lemmas.List.{get_or-take, get_or-drop, take-take}
use Rattle.isdbt_base.specs.declared.kinds.Mode.{Mode}
use Rattle.isdbt_base.specs.Numbers.{carriers}
use Rattle.isdbt_base.proofs.RangeLaws.{map-same}
use Rattle.cell_map.specs.declared.cell.Cell.{Cell}
use Rattle.coder_core.specs.SentCells.{frame_size}
use Rattle.seg_receiver.specs.CellStream.{FrameCells, symbol_size, symbol_start, tmcc_bit, stream_word, stream_cell}
use Rattle.seg_receiver.specs.FrameReading.{cell_at, AreCellsOf, ShowsFrame}
use Rattle.seg_receiver.specs.Receiver.{IsSymbolOf}

-- a byte of a piece of a stream
pub byte-in_piece : (stream piece : List ℕ) (from n i : ℕ) → piece ≡ take n (drop from stream) → i < n → slice_index piece i ≡ slice_index stream (from + i)
byte-in_piece stream piece from n i is less =
    ap (λ xs. slice_index xs i) is ∙ get_or-take n (drop from stream) i 0 less ∙ get_or-drop from stream i 0

cell-in_piece : (stream piece : List ℕ) (from n i : ℕ) → piece ≡ take n (drop from stream) → i + 1 < n → cell_at piece i ≡ cell_at stream (from + i)
cell-in_piece stream piece from n i is less =
    let first : slice_index piece i ≡ slice_index stream (from + i) = byte-in_piece stream piece from n i is (omega arith) in
    let second : slice_index piece (i + 1) ≡ slice_index stream (from + i + 1) = byte-in_piece stream piece from n (i + 1) is less ∙ ap (slice_index stream) (let e : from + (i + 1) ≡ from + i + 1 = omega arith in e) in
    ap (λ a. record { i = cast_signed w8 a; q = cast_signed w8 (slice_index piece (i + 1)) }) first
    ∙ ap (λ b. record { i = cast_signed w8 (slice_index stream (from + i)); q = cast_signed w8 b }) second

-- the cell at a place of a symbol
pub stream_cell-at : (mode : Mode) (stream : List ℕ) (f k segment carrier : ℕ) → stream_cell mode stream f k segment carrier ≡ cell_at stream (symbol_start mode f k + 1 + 2 * (segment * carriers mode + carrier))
unfolding stream_cell
stream_cell-at mode stream f k segment carrier = refl

-- the cells of a symbol's bytes are those of symbol k
pub is-symbol : (segments : ℕ) (mode : Mode) (cell : FrameCells) (f k : ℕ) (rest part : List ℕ) (cells : List Cell) → segments ≤ 13 → k < 204 → length cells ≡ segments * carriers mode → part ≡ take (symbol_size mode) (drop (k * symbol_size mode) rest)
    → AreCellsOf part cells → ShowsFrame mode cell f rest → IsSymbolOf segments mode cell f k cells
is-symbol segments mode cell f k rest part cells most less size is are shows = record {
  each = λ segment carrier s c. (
      let n = segment * carriers mode + carrier in
      let counted : n < segments * carriers mode = (let e = mul-add-lt segment (carriers mode) carrier segments s c in omega (arith, e)) in
      let few : segment < 13 = omega (arith, s, most) in
      let within : n < 13 * carriers mode = (let e = mul-add-lt segment (carriers mode) carrier 13 few c in omega (arith, e)) in
      let start = k * symbol_size mode in
      are.each n (omega (arith, counted, size))
      ∙ ap Some (cell-in_piece rest part start (symbol_size mode) (1 + 2 * n) is (omega (arith, within))
      ∙ ap (cell_at rest) (let e : start + (1 + 2 * n) ≡ symbol_start mode 0 k + 1 + 2 * n = omega arith in e)
      ∙ sym (stream_cell-at mode rest 0 k segment carrier) ∙ shows.each k segment carrier less few c));
}

-- ---- frames of a stream

-- where a symbol ends in its frame
symbol-end : (mode : Mode) (k r : ℕ) → k < 204 → r < symbol_size mode → k * symbol_size mode + r < frame_size mode
symbol-end mode k r less within = (let e = mul-add-lt k (symbol_size mode) r 204 less within in omega (arith, e))

-- the bytes from a frame on show it
pub shows-rest : (mode : Mode) (stream : List ℕ) (f : ℕ) → ShowsFrame mode (stream_cell mode stream) f (drop (f * frame_size mode) stream)
shows-rest mode stream f = record {
  each = λ k segment carrier l s c. (
      let from = f * frame_size mode in
      let at = symbol_start mode 0 k + 1 + 2 * (segment * carriers mode + carrier) in
      let first : slice_index (drop from stream) at ≡ slice_index stream (from + at) = get_or-drop from stream at 0 in
      let second : slice_index (drop from stream) (at + 1) ≡ slice_index stream (from + at + 1) = get_or-drop from stream (at + 1) 0 ∙ ap (slice_index stream) (let e : from + (at + 1) ≡ from + at + 1 = omega arith in e) in
      stream_cell-at mode (drop from stream) 0 k segment carrier
      ∙ ap (λ a. record { i = cast_signed w8 a; q = cast_signed w8 (slice_index (drop from stream) (at + 1)) }) first
      ∙ ap (λ b. record { i = cast_signed w8 (slice_index stream (from + at)); q = cast_signed w8 b }) second
      ∙ ap (cell_at stream) (let e : from + at ≡ symbol_start mode f k + 1 + 2 * (segment * carriers mode + carrier) = omega arith in e)
      ∙ sym (stream_cell-at mode stream f k segment carrier));
}

-- bytes that begin with the symbols of a frame show it where those behind which they were taken do
pub shows-front : (mode : Mode) (cell : FrameCells) (f : ℕ) (rest bytes : List ℕ) → take (frame_size mode) bytes ≡ take (frame_size mode) rest → ShowsFrame mode cell f rest → ShowsFrame mode cell f bytes
shows-front mode cell f rest bytes same shows = record {
  each = λ k segment carrier l s c. (
      let n = segment * carriers mode + carrier in
      let at = symbol_start mode 0 k + 1 + 2 * n in
      let place : n < 13 * carriers mode = (let e = mul-add-lt segment (carriers mode) carrier 13 s c in omega (arith, e)) in
      let end = symbol-end mode k (1 + 2 * n + 1) l (omega (arith, place)) in
      let byte : (xs : List ℕ) (i : ℕ) → i < frame_size mode → slice_index xs i ≡ slice_index (take (frame_size mode) xs) i = λ xs i less. sym (get_or-take (frame_size mode) xs i 0 less) in
      let first = byte bytes at (omega (arith, end)) ∙ ap (λ xs. slice_index xs at) same ∙ sym (byte rest at (omega (arith, end))) in
      let second = byte bytes (at + 1) (omega (arith, end)) ∙ ap (λ xs. slice_index xs (at + 1)) same ∙ sym (byte rest (at + 1) (omega (arith, end))) in
      stream_cell-at mode bytes 0 k segment carrier
      ∙ ap (λ a. record { i = cast_signed w8 a; q = cast_signed w8 (slice_index bytes (at + 1)) }) first
      ∙ ap (λ b. record { i = cast_signed w8 (slice_index rest at); q = cast_signed w8 b }) second
      ∙ sym (stream_cell-at mode rest 0 k segment carrier) ∙ shows.each k segment carrier l s c);
}

-- so does the frame alone
pub shows-frame : (mode : Mode) (stream frame : List ℕ) (f : ℕ) → frame ≡ take (frame_size mode) (drop (f * frame_size mode) stream) → ShowsFrame mode (stream_cell mode stream) f frame
shows-frame mode stream frame f is =
    let rest = drop (f * frame_size mode) stream in
    shows-front mode (stream_cell mode stream) f rest frame (ap (take (frame_size mode)) is ∙ take-take (frame_size mode) (frame_size mode) rest (omega arith)) (shows-rest mode stream f)

-- and its word is that of the frame
pub word-frame : (mode : Mode) (stream frame : List ℕ) (f : ℕ) → frame ≡ take (frame_size mode) (drop (f * frame_size mode) stream) → stream_word mode frame 0 ≡ stream_word mode stream f
unfolding stream_word
word-frame mode stream frame f is =
    map-same (tmcc_bit mode frame 0) (tmcc_bit mode stream f) 0 204 (λ k low high. (
    let at = symbol_start mode 0 k in
    let end = symbol-end mode k 0 (omega (arith, high)) (omega arith) in
    ap (λ b. b % 2 == 1) (byte-in_piece stream frame (f * frame_size mode) (frame_size mode) at is (omega (arith, end))
    ∙ ap (slice_index stream) (let e : f * frame_size mode + at ≡ symbol_start mode f k = omega arith in e))))
