-- What partial reception gives out of a frame.
use Rattle.std.proofs.Common.{◌≡◌, ℕ, zero, suc, ◌+◌, ◌*◌, ◌≤◌, ◌<◌, List, ◌++◌, length, take, drop, flat_map, Some, true, refl, arith, ap, sym, subst, ◌∙◌, drop-drop}
use Rattle.std.specs.Prelude.{nat_le, min}
use Rattle.std.specs.List.{range_with_len}
use Rattle.std.proofs.Math.Seq.{take-add}
use Rattle.std.proofs.Math.Nat.{mod-eq_of_lt}
use Rattle.std.proofs.lemmas.List.{take_all}
use Rattle.isdbt_base.specs.declared.kinds.Mode.{Mode}
use Rattle.isdbt_base.specs.LayerParameters.{LayerParameters}
use Rattle.isdbt_base.specs.Numbers.{carriers, packets_per_frame, layer_delay}
use Rattle.isdbt_base.proofs.RangeLaws.{flat_map-same}
use Rattle.ts_packet.specs.Packets.{piece, piece_or_null}
use Rattle.ts_packet.proofs.PieceLaws.{piece_or_null-piece}
use Rattle.cell_map.specs.declared.cell.Cell.{Cell}
use Rattle.layer_chain.specs.OuterWords.{given_out}
use Rattle.layer_chain.specs.SymbolReader.{IsSymbol}
use Rattle.layer_chain.specs.LayerDecoder as layer
use Rattle.layer_chain.specs.declared.layer_decoder.LayerDecoder.{LayerDecoder}
use Rattle.seg_receiver.specs.Received.{segment_bits, partial_packets}
use Rattle.seg_receiver.specs.PartialReceiver.{AreSegmentCells}
use Rattle.seg_receiver.proofs.DecoderParts.{is_symbol}

-- the cells of segment 0 have the bits of an epoch symbol
pub segment-symbol : (mode : Mode) (l : LayerParameters) (cell : ℕ → ℕ → ℕ → Cell) (start h k : ℕ) (cells : List Cell) → k < 204 → length cells ≡ carriers mode → AreSegmentCells mode cell (start + h) k cells
    → IsSymbol l.modulation (segment_bits mode l cell start) (204 * h + k) cells
segment-symbol mode l cell start h k cells less size are =
    is_symbol mode l (λ g y segment carrier. cell g y carrier) start 0 h k cells less (record {
      each = λ w within. (
          let fits : w < carriers mode = omega (arith, within, size) in
          are.each w fits ∙ ap (λ c. Some (cell (start + h) k c)) (sym (mod-eq_of_lt fits)));
    })

-- a decoder of the same layer and mode stands for the same bits
pub same-stands : (s t : LayerDecoder) (cell : ℕ → ℕ → ℕ → Cell) (start h : ℕ) → layer.mode_of t ≡ layer.mode_of s → layer.layer_of t ≡ layer.layer_of s
    → layer.StandsFor t (segment_bits (layer.mode_of s) (layer.layer_of s) cell start) h → layer.StandsFor t (segment_bits (layer.mode_of t) (layer.layer_of t) cell start) h
same-stands s t cell start h mode same stands =
    let e = ap (λ m. segment_bits m (layer.layer_of s) cell start) mode in
    let k = ap (λ l. segment_bits (layer.mode_of t) l cell start) same in
    subst (λ bits. layer.StandsFor t bits h) (sym (k ∙ e)) stands

pub same-delay : (s t : LayerDecoder) (frames h : ℕ) → layer.mode_of t ≡ layer.mode_of s → layer.layer_of t ≡ layer.layer_of s → frames ≡ min h (layer_delay (layer.mode_of s) (layer.layer_of s)) → frames ≡ min h (layer_delay (layer.mode_of t) (layer.layer_of t))
same-delay s t frames h mode same counted =
    counted ∙ ap (λ m. min h (layer_delay m (layer.layer_of s))) (sym mode) ∙ ap (λ l. min h (layer_delay (layer.mode_of t) l)) (sym same)

-- the count of frames after one more, below the delay and at it
pub counts-on : (s t : LayerDecoder) (frames h : ℕ) → layer.mode_of t ≡ layer.mode_of s → layer.layer_of t ≡ layer.layer_of s → frames ≡ min h (layer_delay (layer.mode_of s) (layer.layer_of s)) → frames < layer_delay (layer.mode_of s) (layer.layer_of s)
    → frames + 1 ≡ min (h + 1) (layer_delay (layer.mode_of t) (layer.layer_of t))
counts-on s t frames h mode same counted less =
    let e = ap (λ m. layer_delay m (layer.layer_of t)) mode in
    let k = ap (layer_delay (layer.mode_of s)) same in
    omega (arith, e, k, counted, less)

pub counts-same : (s t : LayerDecoder) (frames h : ℕ) → layer.mode_of t ≡ layer.mode_of s → layer.layer_of t ≡ layer.layer_of s → frames ≡ min h (layer_delay (layer.mode_of s) (layer.layer_of s)) → layer_delay (layer.mode_of s) (layer.layer_of s) ≤ frames
    → frames ≡ min (h + 1) (layer_delay (layer.mode_of t) (layer.layer_of t))
counts-same s t frames h mode same counted full =
    let e = ap (λ m. layer_delay m (layer.layer_of t)) mode in
    let k = ap (layer_delay (layer.mode_of s)) same in
    omega (arith, e, k, counted, full)

-- bytes that are cut into packets are these packets, one behind the other
cut-pieces : (bytes : List ℕ) (a n : ℕ) → 188 * (a + n) ≤ length bytes → flat_map (piece 188 bytes) (range_with_len a n) ≡ take (188 * n) (drop (188 * a) bytes)
cut-pieces bytes a zero fits = refl
cut-pieces bytes a (suc n) fits =
    ap (λ xs. piece 188 bytes a ++ xs) (cut-pieces bytes (a + 1) n (omega (arith, fits)))
    ∙ ap (λ xs. piece 188 bytes a ++ take (188 * n) xs) (ap (λ m. drop m bytes) (let e : 188 * (a + 1) ≡ 188 * a + 188 = omega arith in e) ∙ sym (drop-drop 188 (188 * a) bytes))
    ∙ sym (take-add 188 (188 * n) (drop (188 * a) bytes))
    ∙ ap (λ m. take m (drop (188 * a) bytes)) (let e : 188 + 188 * n ≡ 188 * suc n = omega arith in e)

pub all-pieces : (bytes : List ℕ) (n : ℕ) (f : ℕ → List ℕ) → length bytes ≡ 188 * n → ((j : ℕ) → j < n → piece_or_null bytes j ≡ f j) → bytes ≡ flat_map f (range_with_len 0 n)
all-pieces bytes n f size each =
    sym (take_all (188 * n) bytes (omega (arith, size)))
    ∙ ap (λ m. take (188 * n) (drop m bytes)) (let e : 0 ≡ 188 * 0 = omega arith in e)
    ∙ sym (cut-pieces bytes 0 n (omega (arith, size)))
    ∙ flat_map-same (piece 188 bytes) f 0 n (λ j low high. sym (piece_or_null-piece bytes j (omega (arith, high, size))) ∙ each j (omega (arith, high)))

-- the packets of a frame past the delay
pub given-packets : (mode : Mode) (l : LayerParameters) (cell : ℕ → ℕ → ℕ → Cell) (start h : ℕ) (bytes : List ℕ) → nat_le (layer_delay mode l) h ≡ true → length bytes ≡ 188 * packets_per_frame mode l
    → ((j : ℕ) → j < packets_per_frame mode l → piece_or_null bytes j ≡ given_out mode l (segment_bits mode l cell start) h j) → bytes ≡ partial_packets mode l cell start h
given-packets mode l cell start h bytes past size each =
    rw past (all-pieces bytes (packets_per_frame mode l) (given_out mode l (segment_bits mode l cell start) h) size each)
