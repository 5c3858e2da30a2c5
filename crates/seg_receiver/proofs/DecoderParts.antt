-- A symbol and a frame of a layer that may be unused.
use Rattle.std.proofs.Common.{◌≡◌, ℕ, ◌+◌, ◌*◌, ◌/◌, ◌%◌, ◌<◌, Option, Some, None, List, ap, sym, subst, ◌∙◌, arith}
use Rattle.std.specs.Option.{option_map}
use Rattle.std.proofs.lemmas.Option.{same_Some}
use Rattle.isdbt_base.specs.declared.kinds.Mode.{Mode}
use Rattle.isdbt_base.specs.LayerParameters.{LayerParameters}
use Rattle.isdbt_base.specs.Numbers.{carriers, packets_per_frame}
use Rattle.ts_packet.specs.Packets.{piece_or_null}
use Rattle.cell_map.specs.declared.cell.Cell.{Cell}
use Rattle.cell_map.specs.Levels.{bits_of}
use Rattle.layer_chain.specs.OuterWords.{given_out}
use Rattle.layer_chain.specs.SymbolReader.{IsSymbol}
use Rattle.layer_chain.specs.LayerDecoder.{mode_of, layer_of, symbols_of}
use Rattle.layer_chain.specs.declared.layer_decoder.LayerDecoder.{LayerDecoder}
use Rattle.seg_receiver.specs.CellStream.{FrameCells}
use Rattle.seg_receiver.specs.Received.{place_bits}
use Rattle.seg_receiver.specs.UsedDecoders.{IsDecoderOf, DecoderStandsFor, AreCellsFrom, ArePacketsOf, TakesIfUsed, GivesIfUsed}

-- the cells of a symbol from a segment on have the bits of an epoch symbol
pub is_symbol : (mode : Mode) (l : LayerParameters) (cell : FrameCells) (start first h k : ℕ) (cells : List Cell) → k < 204 → AreCellsFrom mode cell first (start + h) k cells
    → IsSymbol l.modulation (place_bits mode l cell start first) (204 * h + k) cells
is_symbol mode l cell start first h k cells less are = record {
  each = λ w within.
      let segment = first + w / carriers mode in
      let carrier = w % carriers mode in
      let frame : start + h ≡ start + (204 * h + k) / 204 = omega arith in
      let symbol : k ≡ (204 * h + k) % 204 = omega arith in
      ap (option_map (bits_of l.modulation)) (are.each w within)
      ∙ ap (λ f. Some (bits_of l.modulation (cell f k segment carrier))) frame
      ∙ ap (λ y. Some (bits_of l.modulation (cell (start + (204 * h + k) / 204) y segment carrier))) symbol;
}

pub part-symbol : (mode : Mode) (o : Option LayerParameters) (n : ℕ) (s t : Option LayerDecoder) (cells : List Cell) (cell : FrameCells) (start first h : ℕ) →
    IsDecoderOf mode o n s → TakesIfUsed s cells t → n < 204 → AreCellsFrom mode cell first (start + h) n cells → DecoderStandsFor mode o s cell start first h → DecoderStandsFor mode o t cell start first h
part-symbol mode None n s t cells cell start first h fits takes less are stands = tt
part-symbol mode (Some l) n None t cells cell start first h fits takes less are stands = absurd stands
part-symbol mode (Some l) n (Some s) None cells cell start first h fits takes less are stands = absurd takes
part-symbol mode (Some l) n (Some s) (Some t) cells cell start first h fits takes less are stands =
    let k = same_Some (layer_of s) l fits.same_layer in
    let m = same_Some (symbols_of s) n fits.same_symbols in
    let p = place_bits mode l cell start first in
    takes.state p h stands (subst (λ y. IsSymbol y.modulation p (204 * h + symbols_of s) cells) (sym k) (subst (λ y. IsSymbol l.modulation p (204 * h + y) cells) (sym m) (is_symbol mode l cell start first h n cells less are)))

-- packets of a layer as its decoder gives them
abbrev Given : (ℕ → ℕ → ℕ) → ℕ → List ℕ → Mode → LayerParameters → Type 0
Given bits h bytes mode l = (j : ℕ) → j < packets_per_frame mode l → piece_or_null bytes j ≡ given_out mode l bits h j

pub part-packets : (mode : Mode) (o : Option LayerParameters) (n : ℕ) (s t : Option LayerDecoder) (bytes : List ℕ) (cell : FrameCells) (start first h : ℕ) →
    IsDecoderOf mode o n s → GivesIfUsed s t bytes → DecoderStandsFor mode o s cell start first h → ArePacketsOf mode o cell start first h bytes
part-packets mode None n s t bytes cell start first h fits gives stands = tt
part-packets mode (Some l) n None t bytes cell start first h fits gives stands = absurd stands
part-packets mode (Some l) n (Some s) None bytes cell start first h fits gives stands = absurd gives
part-packets mode (Some l) n (Some s) (Some t) bytes cell start first h fits gives stands =
    let m = same_Some (mode_of s) mode fits.same_mode in
    let k = same_Some (layer_of s) l fits.same_layer in
    let p = place_bits mode l cell start first in
    subst (λ y. Given p h bytes y l) m (subst (λ y. Given p h bytes (mode_of s) y) k (gives.given p h stands))

pub part-frame : (mode : Mode) (o : Option LayerParameters) (s t : Option LayerDecoder) (bytes : List ℕ) (cell : FrameCells) (start first h : ℕ) →
    GivesIfUsed s t bytes → DecoderStandsFor mode o s cell start first h → DecoderStandsFor mode o t cell start first (h + 1)
part-frame mode None s t bytes cell start first h gives stands = tt
part-frame mode (Some l) None t bytes cell start first h gives stands = absurd stands
part-frame mode (Some l) (Some s) None bytes cell start first h gives stands = absurd gives
part-frame mode (Some l) (Some s) (Some t) bytes cell start first h gives stands = gives.state (place_bits mode l cell start first) h stands
