-- What a receiver sees in the cells of a frame of a plan: the word and the cells that were sent.
use Rattle.std.proofs.Common.{◌≡◌, ℕ, suc, ◌+◌, ◌-◌, ◌*◌, ◌/◌, ◌%◌, ◌<◌, Bool, true, false, List, length, refl, arith, ap, sym, ◌∙◌, subst, inl, inr}
use Rattle.std.specs.Prelude.{slice_index, slice_index_or, ◌==◌}
use Rattle.std.specs.Int.{w8, cast_signed, cast_unsigned, from_bool}
use Rattle.std.proofs.lemmas.Nat.{mul-add-lt, div-mul-add, mod-mul-add}
use Rattle.std.proofs.lemmas.List.FromFn.{fill_by_all}
use Rattle.isdbt_base.proofs.OptionLaws.{option_cases}
use Rattle.isdbt_base.specs.declared.kinds.Mode.{Mode}
use Rattle.isdbt_base.specs.LayerParameters.{LayerParameters}
use Rattle.isdbt_base.specs.Parameters.{Parameters, layer_of}
use Rattle.isdbt_base.specs.Numbers.{carriers, first_segment}
use Rattle.isdbt_base.specs.Plans.{Schedule, at_frame}
use Rattle.isdbt_base.specs.Frames.{FramePackets}
use Rattle.cell_map.specs.declared.cell.Cell.{Cell}
use Rattle.cell_map.proofs.LevelLaws.{IsBack, cell_of-back, zero-back}
use Rattle.layer_chain.specs.CodedBits.{layer_coded_bit}
use Rattle.layer_chain.specs.LayerCells.{cell_bits_at}
use Rattle.tmcc_word.proofs.ReadBack.{length-word_of}
use Rattle.coder_core.specs.SentCells.{epoch_packet, layer_cell_at, segment_layer, cell_in, epoch_cell, cell_bytes, symbol_bytes, epoch_frame_cells, plan_info, plan_word, frame_cells, frame_size}
use Rattle.seg_receiver.specs.CellStream.{symbol_size, tmcc_bit, stream_word, stream_cell}
use Rattle.seg_receiver.proofs.Pieces.{length-pieces, get_or-pieces}

-- ---- sizes

length-symbol_bytes : (mode : Mode) (tmcc : Bool) (cell : ℕ → ℕ → Cell) → length (symbol_bytes mode tmcc cell) ≡ symbol_size mode
unfolding symbol_bytes
length-symbol_bytes mode tmcc cell =
    let e = length-pieces (λ n. cell_bytes (cell (n / carriers mode) (n % carriers mode))) 2 0 (13 * carriers mode) (λ k. refl) in omega (arith, e)

-- symbol k of a frame
abbrev frame_symbol : Schedule → FramePackets → ℕ → ℕ → List ℕ
frame_symbol p frames f k =
    symbol_bytes (at_frame p f).mode (slice_index_or (plan_word p f) k false) (epoch_cell (at_frame p f).mode (at_frame p f).setting frames (at_frame p f).start (204 * (f - (at_frame p f).start) + k))

length-frame_symbol : (p : Schedule) (frames : FramePackets) (f k : ℕ) → length (frame_symbol p frames f k) ≡ symbol_size (at_frame p f).mode
length-frame_symbol p frames f k =
    length-symbol_bytes (at_frame p f).mode (slice_index_or (plan_word p f) k false) (epoch_cell (at_frame p f).mode (at_frame p f).setting frames (at_frame p f).start (204 * (f - (at_frame p f).start) + k))

pub length-frame_cells : (p : Schedule) (frames : FramePackets) (f : ℕ) → length (frame_cells p frames f) ≡ frame_size (at_frame p f).mode
unfolding frame_cells epoch_frame_cells
length-frame_cells p frames f = length-pieces (frame_symbol p frames f) (symbol_size (at_frame p f).mode) 0 204 (length-frame_symbol p frames f)

-- ---- bytes of a frame

byte-in_frame : (p : Schedule) (frames : FramePackets) (f k r : ℕ) → k < 204 → r < symbol_size (at_frame p f).mode
    → slice_index (frame_cells p frames f) (k * symbol_size (at_frame p f).mode + r) ≡ slice_index (frame_symbol p frames f k) r
unfolding frame_cells epoch_frame_cells
byte-in_frame p frames f k r h l =
    get_or-pieces (frame_symbol p frames f) (symbol_size (at_frame p f).mode) 0 204 k r 0 (length-frame_symbol p frames f) h l
    ∙ ap (λ i. slice_index (frame_symbol p frames f i) r) (let e : 0 + k ≡ k = omega arith in e)

-- ---- words

bit_of_byte : (b : Bool) → (from_bool b % 2 == 1) ≡ b
bit_of_byte true = refl
bit_of_byte false = refl

first_byte : (mode : Mode) (tmcc : Bool) (cell : ℕ → ℕ → Cell) → slice_index (symbol_bytes mode tmcc cell) 0 ≡ from_bool tmcc
unfolding symbol_bytes
first_byte mode tmcc cell = refl

pub frame-word : (p : Schedule) (frames : FramePackets) (f : ℕ) → stream_word (at_frame p f).mode (frame_cells p frames f) 0 ≡ plan_word p f
unfolding stream_word
frame-word p frames f =
    let mode = (at_frame p f).mode in
    let bytes = frame_cells p frames f in
    sym (fill_by_all (tmcc_bit mode bytes 0) (plan_word p f) 204 false (length-word_of (plan_info p f) (f % 2 == 1)) (λ k l.
    sym (ap (λ at. slice_index bytes at % 2 == 1) (let e : 0 * frame_size mode + k * symbol_size mode ≡ k * symbol_size mode + 0 = omega arith in e)
    ∙ ap (λ b. b % 2 == 1) (byte-in_frame p frames f k 0 l (omega arith) ∙ first_byte mode (slice_index_or (plan_word p f) k false) _)
    ∙ bit_of_byte (slice_index_or (plan_word p f) k false))))

-- ---- cells

cell-in_symbol : (mode : Mode) (tmcc : Bool) (cell : ℕ → ℕ → Cell) (segment carrier r : ℕ) → segment < 13 → carrier < carriers mode → r < 2 →
    slice_index (symbol_bytes mode tmcc cell) (suc ((segment * carriers mode + carrier) * 2 + r)) ≡ slice_index (cell_bytes (cell segment carrier)) r
unfolding symbol_bytes
cell-in_symbol mode tmcc cell segment carrier r h l m =
    let place = segment * carriers mode + carrier in
    let within : place < 13 * carriers mode = (let e = mul-add-lt segment (carriers mode) carrier 13 h l in omega (arith, e)) in
    get_or-pieces (λ n. cell_bytes (cell (n / carriers mode) (n % carriers mode))) 2 0 (13 * carriers mode) place r 0 (λ n. refl) within m
    ∙ ap (λ n. slice_index (cell_bytes (cell (n / carriers mode) (n % carriers mode))) r) (let e : 0 + place ≡ place = omega arith in e)
    ∙ ap (λ n. slice_index (cell_bytes (cell n (place % carriers mode))) r) (div-mul-add segment (carriers mode) carrier l)
    ∙ ap (λ n. slice_index (cell_bytes (cell segment n)) r) (mod-mul-add segment (carriers mode) carrier l)

layer_cell_at-back : (mode : Mode) (l : LayerParameters) (packet : ℕ → List ℕ) (y w : ℕ) → IsBack (layer_cell_at mode l packet y w)
unfolding layer_cell_at
layer_cell_at-back mode l packet y w = cell_of-back l.modulation (cell_bits_at mode l (layer_coded_bit mode l packet) y w)

epoch_cell-back : (mode : Mode) (s : Parameters) (frames : FramePackets) (start y segment carrier : ℕ) → IsBack (epoch_cell mode s frames start y segment carrier)
epoch_cell-back mode s frames start y segment carrier =
    elim (option_cases (layer_of s (segment_layer s segment))) [
      | inl none ↦ subst IsBack (sym (ap (cell_in mode s frames start y segment carrier (segment_layer s segment)) none)) zero-back
      | inr used ↦ subst IsBack (sym (ap (cell_in mode s frames start y segment carrier (segment_layer s segment)) used.1))
          (layer_cell_at-back mode used.0 (epoch_packet mode used.0 frames start (segment_layer s segment)) y ((segment - first_segment s (segment_layer s segment)) * carriers mode + carrier))
    ]

-- a cell from its two bytes
cell-of_bytes : (c : Cell) (a b : ℕ) → IsBack c → a ≡ cast_unsigned w8 c.i → b ≡ cast_unsigned w8 c.q → record { i = cast_signed w8 a; q = cast_signed w8 b } ≡ c
cell-of_bytes c a b back is_i is_q =
    ap (λ x. record { i = cast_signed w8 x; q = cast_signed w8 b }) is_i
    ∙ ap (λ x. record { i = cast_signed w8 (cast_unsigned w8 c.i); q = cast_signed w8 x }) is_q
    ∙ ap (λ x. record { i = x; q = cast_signed w8 (cast_unsigned w8 c.q) }) back.i
    ∙ ap (λ x. record { i = c.i; q = x }) back.q

pub frame-cell : (p : Schedule) (frames : FramePackets) (f k segment carrier : ℕ) → k < 204 → segment < 13 → carrier < carriers (at_frame p f).mode →
    stream_cell (at_frame p f).mode (frame_cells p frames f) 0 k segment carrier
    ≡ epoch_cell (at_frame p f).mode (at_frame p f).setting frames (at_frame p f).start (204 * (f - (at_frame p f).start) + k) segment carrier
unfolding stream_cell
frame-cell p frames f k segment carrier l m n =
    let mode = (at_frame p f).mode in
    let bytes = frame_cells p frames f in
    let cell = epoch_cell mode (at_frame p f).setting frames (at_frame p f).start (204 * (f - (at_frame p f).start) + k) in
    let place = segment * carriers mode + carrier in
    let at = 0 * frame_size mode + k * symbol_size mode + 1 + 2 * place in
    let within : place < 13 * carriers mode = (let e = mul-add-lt segment (carriers mode) carrier 13 m n in omega (arith, e)) in
    let back = epoch_cell-back mode (at_frame p f).setting frames (at_frame p f).start (204 * (f - (at_frame p f).start) + k) segment carrier in
    let byte : (r : ℕ) → r < 2 → slice_index bytes (at + r) ≡ slice_index (cell_bytes (cell segment carrier)) r = λ r b.
    ap (slice_index bytes) (let e : at + r ≡ k * symbol_size mode + suc (place * 2 + r) = omega arith in e)
    ∙ byte-in_frame p frames f k (suc (place * 2 + r)) l (omega arith)
    ∙ cell-in_symbol mode (slice_index_or (plan_word p f) k false) cell segment carrier r m n b in
    cell-of_bytes (cell segment carrier) (slice_index bytes at) (slice_index bytes (at + 1)) back (ap (slice_index bytes) (let e : at ≡ at + 0 = omega arith in e) ∙ byte 0 (omega arith)) (byte 1 (omega arith))
