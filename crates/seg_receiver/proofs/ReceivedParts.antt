-- The layers of a receiver: their cells in a symbol, and their packets in a frame.
use Rattle.std.proofs.Common.{◌≡◌, ℕ, ◌+◌, ◌-◌, ◌*◌, ◌/◌, ◌%◌, ◌<◌, Option, Some, None, List, take, drop, refl, ap, sym, subst, ◌∙◌, arith, inl, inr, length-take}
use Rattle.std.specs.Prelude.{slice_get}
use Rattle.std.proofs.lemmas.Nat.{mod_below, div_below, div-add-mod'}
use Rattle.std.proofs.Math.Nat.{add-mul}
use Rattle.isdbt_base.specs.declared.kinds.Mode.{Mode}
use Rattle.isdbt_base.specs.declared.kinds.Guard.{Guard}
use Rattle.isdbt_base.specs.declared.kinds.Layer.{Layer}
use Rattle.isdbt_base.specs.declared.kinds.Layer.TheVariants.{A, B, C}
use Rattle.isdbt_base.specs.LayerParameters.{LayerParameters}
use Rattle.isdbt_base.specs.Parameters.{Parameters, IsAccepted, layer_of, number_of, sum_before}
use Rattle.isdbt_base.specs.Numbers.{carriers, layer_cells, packets_per_frame, first_segment}
use Rattle.isdbt_base.proofs.OptionLaws.{option_cases}
use Rattle.ts_packet.specs.Packets.{piece_or_null, null_packet}
use Rattle.bts_info.specs.Fields.{Tag}
use Rattle.frame_order.specs.declared.layer_packets.LayerPackets.{LayerPackets}
use Rattle.frame_order.specs.LayerBytes.{layer_packet}
use Rattle.frame_order.specs.OrderedFrame.{ordered_frame}
use Rattle.frame_order.proofs.FrameBytes.{ordered_frame-same}
use Rattle.cell_map.specs.declared.cell.Cell.{Cell}
use Rattle.layer_chain.specs.OuterWords.{given_out}
use Rattle.coder_core.proofs.CellLists.{part-get}
use Rattle.coder_core.proofs.FrameSymbols.{cells-segments}
use Rattle.coder_core.proofs.SegmentCells.{carriers-positive}
use Rattle.seg_receiver.specs.CellStream.{FrameCells}
use Rattle.seg_receiver.specs.Received.{place_bits, setting_packet}
use Rattle.seg_receiver.specs.UsedDecoders.{AreCellsFrom, ArePacketsOf}
use Rattle.seg_receiver.specs.DecoderPart.{HasPacketsOf}
use Rattle.seg_receiver.specs.Receiver.{IsSymbolOf}
use Rattle.seg_receiver.specs.declared.decoder_part.DecoderPart.{DecoderPart}
use Rattle.seg_receiver.proofs.CleanDelivered.{segment-lt}

-- ---- the cells of a layer

-- the cells before a layer are those of the segments before it
before-segments : (mode : Mode) (s : Parameters) (x : Layer) → sum_before (layer_cells mode) s x ≡ first_segment s x * carriers mode
before-segments mode s A = (let e : 0 ≡ 0 * carriers mode = omega arith in e)
before-segments mode s B = refl
before-segments mode s C = ap (λ n. s.a.segments * carriers mode + n) (cells-segments mode s.b) ∙ sym (add-mul s.a.segments (number_of (λ l. l.segments) s.b) (carriers mode))

-- a cell of a layer has a segment and a carrier
cell-at : (mode : Mode) (s : Parameters) (x : Layer) (cells : List Cell) (cell : FrameCells) (f k w : ℕ) → IsAccepted s → IsSymbolOf 13 mode cell f k cells → w < number_of (layer_cells mode) (layer_of s x)
    → slice_get cells (first_segment s x * carriers mode + w) ≡ Some (cell f k (first_segment s x + w / carriers mode) (w % carriers mode))
cell-at mode s x cells cell f k w accepted is h =
    elim (option_cases (layer_of s x)) [
      | inl none ↦ absurd (omega (arith, subst (λ o. w < number_of (layer_cells mode) o) none h))
      | inr used ↦ (let n = carriers mode in
          let first = first_segment s x in
          let row : w / n < used.0.segments = div_below w n used.0.segments (carriers-positive mode) (subst (λ o. w < number_of (layer_cells mode) o) used.1 h) in
          let place : first * n + w ≡ (first + w / n) * n + w % n = (let d = div-add-mod' w n in let m = add-mul first (w / n) n in omega (arith, d, m)) in
          ap (slice_get cells) place ∙ is.each (first + w / n) (w % n) (segment-lt s x used.0 (w / n) accepted used.1 row) (mod_below w n (carriers-positive mode)))
    ]

pub layer-cells : (mode : Mode) (s : Parameters) (x : Layer) (cells : List Cell) (cell : FrameCells) (f k from n : ℕ) → IsAccepted s → from ≡ sum_before (layer_cells mode) s x → n ≡ number_of (layer_cells mode) (layer_of s x)
    → IsSymbolOf 13 mode cell f k cells → AreCellsFrom mode cell (first_segment s x) f k (take n (drop from cells))
layer-cells mode s x cells cell f k from n accepted at size is = record {
  each = λ w h.
      let l = length-take n (drop from cells) in
      let within : w < n = omega (arith, l, h) in
      part-get n from cells w within ∙ ap (λ m. slice_get cells (m + w)) (at ∙ before-segments mode s x) ∙ cell-at mode s x cells cell f k w accepted is (omega (arith, size, within));
}

-- ---- the packets of a frame

given-packet : (mode : Mode) (s : Parameters) (x : Layer) (o : Option LayerParameters) (cell : FrameCells) (start h j : ℕ) (bytes : List ℕ) → ArePacketsOf mode o cell start (first_segment s x) h bytes → j < number_of (packets_per_frame mode) o
    → piece_or_null bytes j ≡ setting_packet mode cell start (start + h) s x j o
given-packet mode s x None cell start h j bytes are less = absurd (omega arith)
given-packet mode s x (Some l) cell start h j bytes are less =
    are j less ∙ ap (λ g. given_out mode l (place_bits mode l cell start (first_segment s x)) g j) (let e : h ≡ start + h - start = omega arith in e)

-- the bytes of a layer's decoder are the packets that are given out of the layer
pub record GivesLayer (mode : Mode) (s : Parameters) (x : Layer) (cell : FrameCells) (start h : ℕ) (bytes : List ℕ) : Type 0 where
  pub each : (j : ℕ) → j < number_of (packets_per_frame mode) (layer_of s x) → piece_or_null bytes j ≡ setting_packet mode cell start (start + h) s x j (layer_of s x)

pub gives_layer : (mode : Mode) (s : Parameters) (x : Layer) (p : DecoderPart) (cell : FrameCells) (start h : ℕ) (bytes : List ℕ) → p.mode ≡ mode → p.layer ≡ layer_of s x → bytes ≡ p.bytes.items → HasPacketsOf p cell start (first_segment s x) h
    → GivesLayer mode s x cell start h bytes
gives_layer mode s x p cell start h bytes m l e has =
    let are = subst (λ o. ArePacketsOf mode o cell start (first_segment s x) h bytes) l (subst (λ y. ArePacketsOf y p.layer cell start (first_segment s x) h bytes) m (subst (ArePacketsOf p.mode p.layer cell start (first_segment s x) h) (sym e) has)) in
    record { each = λ j less. given-packet mode s x (layer_of s x) cell start h j bytes are less }

-- the frame of three layers' packets
pub frame-given : (mode : Mode) (guard : Guard) (s : Parameters) (tag : Tag) (packets : LayerPackets) (cell : FrameCells) (start h : ℕ) →
    GivesLayer mode s A cell start h packets.a.now → GivesLayer mode s B cell start h packets.b.now → GivesLayer mode s C cell start h packets.c.now
    → ordered_frame mode guard s tag null_packet (layer_packet packets) ≡ ordered_frame mode guard s tag null_packet (λ x j. setting_packet mode cell start (start + h) s x j (layer_of s x))
frame-given mode guard s tag packets cell start h a b c =
    ordered_frame-same mode guard s tag null_packet (layer_packet packets) (λ x j. setting_packet mode cell start (start + h) s x j (layer_of s x)) (λ m inside. at m.layer m.index inside)
  where
    at : (x : Layer) (j : ℕ) → j < number_of (packets_per_frame mode) (layer_of s x) → layer_packet packets x j ≡ setting_packet mode cell start (start + h) s x j (layer_of s x)
    at A j less = a.each j less
    at B j less = b.each j less
    at C j less = c.each j less
