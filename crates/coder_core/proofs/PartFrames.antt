-- A frame of a layer that may be unused.
use Rattle.std.proofs.Common.{◌≡◌, ℕ, ◌+◌, ◌*◌, ◌/◌, ◌%◌, ◌<◌, Option, Some, None, List, [], get_or, ap, sym, subst, ◌∙◌, arith}
use Rattle.std.specs.Prelude.{slice_get}
use Rattle.std.proofs.lemmas.Option.{same_Some}
use Rattle.std.proofs.Math.Nat.{mul-add-div, mul-add-mod_self_left, mod-eq_of_lt, div-eq_of_lt}
use Rattle.isdbt_base.specs.declared.kinds.Mode.{Mode}
use Rattle.isdbt_base.specs.declared.kinds.Layer.{Layer}
use Rattle.isdbt_base.specs.LayerParameters.{LayerParameters}
use Rattle.isdbt_base.specs.Parameters.{number_of}
use Rattle.isdbt_base.specs.Numbers.{packets_per_frame, layer_cells}
use Rattle.isdbt_base.specs.Frames.{FramePackets}
use Rattle.cell_map.specs.declared.cell.Cell.{Cell}
use Rattle.cell_map.specs.Levels.{cell_of}
use Rattle.layer_chain.specs.CodedBits.{layer_coded_bit}
use Rattle.layer_chain.specs.CodedLayer.{IsFrame}
use Rattle.layer_chain.specs.LayerCells.{cell_bits_at}
use Rattle.layer_chain.specs.LayerCoder.{mode_of, layer_of, packets_of}
use Rattle.layer_chain.specs.declared.layer_coder.LayerCoder.{LayerCoder}
use Rattle.coder_core.specs.InputFrames.{packet_in}
use Rattle.coder_core.specs.SentCells.{epoch_packet, layer_cell_at}
use Rattle.coder_core.specs.UsedLayers.{IsCoderOf, CoderStandsFor, AreCellsOf, CodesIfUsed}

-- the packets of frame g of an epoch
epoch_packet-at : (mode : Mode) (l : LayerParameters) (frames : FramePackets) (start g : ℕ) (x : Layer) (j : ℕ) → j < packets_per_frame mode l
    → epoch_packet mode l frames start x (packets_per_frame mode l * g + j) ≡ frames (start + g) x j
epoch_packet-at mode l frames start g x j h = at (packets_per_frame mode l) h
  where
    at : (t : ℕ) → j < t → frames (start + (t * g + j) / t) x ((t * g + j) % t) ≡ frames (start + g) x j
    at t k =
        let positive : 0 < t = omega arith in
        let div = mul-add-div positive g j in
        let none = div-eq_of_lt k in
        ap (λ d. frames (start + d) x ((t * g + j) % t)) (let e : (t * g + j) / t ≡ g = omega (arith, div, none) in e)
        ∙ ap (frames (start + g) x) (mul-add-mod_self_left t g j ∙ mod-eq_of_lt k)

-- the packets of a frame of a layer
abbrev pub ArePackets : Mode → Option LayerParameters → Layer → List ℕ → List (List ℕ) → Type 0
ArePackets mode o x frame packets = (j : ℕ) → j < number_of (packets_per_frame mode) o → get_or packets j [] ≡ packet_in frame x j

abbrev pub IsLayerFrame : Mode → Option LayerParameters → Layer → List ℕ → FramePackets → ℕ → Type 0
IsLayerFrame mode o x frame frames f = (j : ℕ) → j < number_of (packets_per_frame mode) o → frames f x j ≡ packet_in frame x j

is_frame : (mode : Mode) (l : LayerParameters) (s : LayerCoder) (packets : List (List ℕ)) (x : Layer) (frame : List ℕ) (frames : FramePackets) (start g : ℕ) →
    mode_of s ≡ mode → layer_of s ≡ l → ArePackets mode (Some l) x frame packets → IsLayerFrame mode (Some l) x frame frames (start + g)
    → IsFrame (packets_of s) (epoch_packet mode l frames start x) g packets
is_frame mode l s packets x frame frames start g m k are is =
    let p = epoch_packet mode l frames start x in
    let whole : IsFrame (packets_per_frame mode l) p g packets = record { each = λ j h. epoch_packet-at mode l frames start g x j h ∙ is j h ∙ sym (are j h) } in
    subst (λ y. IsFrame (packets_per_frame y (layer_of s)) p g packets) (sym m) (subst (λ y. IsFrame (packets_per_frame mode y) p g packets) (sym k) whole)

-- cells of a layer as its coder gives them
abbrev Given : (ℕ → List ℕ) → ℕ → List Cell → Mode → LayerParameters → Type 0
Given packet g cells mode l = (y w : ℕ) → y < 204 → w < layer_cells mode l
    → slice_get cells (layer_cells mode l * y + w) ≡ Some (cell_of l.modulation (cell_bits_at mode l (layer_coded_bit mode l packet) (204 * g + y) w))

pub part-cells : (mode : Mode) (o : Option LayerParameters) (s t : Option LayerCoder) (packets : List (List ℕ)) (cells : List Cell) (x : Layer) (frame : List ℕ) (frames : FramePackets) (start g : ℕ) →
    IsCoderOf mode o s → CodesIfUsed s packets t cells → ArePackets mode o x frame packets → CoderStandsFor mode o s x frames start g → IsLayerFrame mode o x frame frames (start + g) → AreCellsOf mode o x frames start g cells
unfolding layer_cell_at
part-cells mode None s t packets cells x frame frames start g fits codes are stands is = tt
part-cells mode (Some l) None t packets cells x frame frames start g fits codes are stands is = absurd stands
part-cells mode (Some l) (Some s) None packets cells x frame frames start g fits codes are stands is = absurd codes
part-cells mode (Some l) (Some s) (Some t) packets cells x frame frames start g fits codes are stands is =
    let m = same_Some (mode_of s) mode fits.same_mode in
    let k = same_Some (layer_of s) l fits.same_layer in
    let p = epoch_packet mode l frames start x in
    subst (λ y. Given p g cells y l) m (subst (λ y. Given p g cells (mode_of s) y) k (codes.given p g stands (is_frame mode l s packets x frame frames start g m k are is)))

pub part-state : (mode : Mode) (o : Option LayerParameters) (s t : Option LayerCoder) (packets : List (List ℕ)) (cells : List Cell) (x : Layer) (frame : List ℕ) (frames : FramePackets) (start g : ℕ) →
    IsCoderOf mode o s → CodesIfUsed s packets t cells → ArePackets mode o x frame packets → CoderStandsFor mode o s x frames start g → IsLayerFrame mode o x frame frames (start + g) → CoderStandsFor mode o t x frames start (g + 1)
part-state mode None s t packets cells x frame frames start g fits codes are stands is = tt
part-state mode (Some l) None t packets cells x frame frames start g fits codes are stands is = absurd stands
part-state mode (Some l) (Some s) None packets cells x frame frames start g fits codes are stands is = absurd codes
part-state mode (Some l) (Some s) (Some t) packets cells x frame frames start g fits codes are stands is =
    let m = same_Some (mode_of s) mode fits.same_mode in
    let k = same_Some (layer_of s) l fits.same_layer in
    codes.state (epoch_packet mode l frames start x) g stands (is_frame mode l s packets x frame frames start g m k are is)
