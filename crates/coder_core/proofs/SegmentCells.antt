-- The cells of a layer at its segments and carriers.
use Rattle.std.proofs.Common.{◌≡◌, ℕ, ◌+◌, ◌-◌, ◌*◌, ◌/◌, ◌%◌, ◌<◌, ◌≤◌, Some, refl, ap, ◌∙◌, arith}
use Rattle.std.proofs.lemmas.Bool.{lt-ltb, le-ltb}
use Rattle.std.proofs.lemmas.Nat.{div-add-mod'}
use Rattle.std.proofs.Math.Nat.{mul-add-div_right, mul-add-mod_self_right, div-lt_iff_lt-mul}
use Rattle.isdbt_base.specs.declared.kinds.Mode.{Mode}
use Rattle.isdbt_base.specs.declared.kinds.Mode.TheVariants.{M1, M2, M3}
use Rattle.isdbt_base.specs.declared.kinds.Layer.{Layer}
use Rattle.isdbt_base.specs.declared.kinds.Layer.TheVariants.{A, B, C}
use Rattle.isdbt_base.specs.LayerParameters.{LayerParameters}
use Rattle.isdbt_base.specs.Parameters.{Parameters, layer_of, number_of}
use Rattle.isdbt_base.specs.Numbers.{carriers, layer_cells, first_segment}
use Rattle.isdbt_base.specs.Frames.{FramePackets}
use Rattle.cell_map.specs.declared.cell.Cell.{Cell}
use Rattle.coder_core.specs.SentCells.{epoch_packet, layer_cell_at, segment_layer, cell_in, epoch_cell}

pub carriers-positive : (mode : Mode) → 0 < carriers mode
carriers-positive M1 = omega arith
carriers-positive M2 = omega arith
carriers-positive M3 = omega arith

-- a segment of a layer is that layer's
segment_layer-is : (s : Parameters) (x : Layer) (l : LayerParameters) (segment : ℕ) → layer_of s x ≡ Some l → first_segment s x ≤ segment → segment < first_segment s x + l.segments → segment_layer s segment ≡ x
segment_layer-is s A l segment e low high =
    let size : s.a.segments ≡ l.segments = ap (number_of (λ l. l.segments)) e in
    rw (lt-ltb segment s.a.segments (omega (arith, size, high))) refl
segment_layer-is s B l segment e low high =
    let size : number_of (λ l. l.segments) s.b ≡ l.segments = ap (number_of (λ l. l.segments)) e in
    rw (le-ltb segment s.a.segments low, lt-ltb segment (s.a.segments + number_of (λ l. l.segments) s.b) (omega (arith, size, high))) refl
segment_layer-is s C l segment e low high =
    rw (le-ltb segment s.a.segments (omega (arith, low)), le-ltb segment (s.a.segments + number_of (λ l. l.segments) s.b) low) refl

-- cell n of a symbol, by segment and then by carrier
abbrev pub symbol_cell : Mode → Parameters → FramePackets → ℕ → ℕ → ℕ → Cell
symbol_cell mode s frames start y n = epoch_cell mode s frames start y (n / carriers mode) (n % carriers mode)

-- cell w of a layer among those of the symbol
pub layer-symbol_cell : (mode : Mode) (s : Parameters) (frames : FramePackets) (start y : ℕ) (x : Layer) (l : LayerParameters) (w : ℕ) → layer_of s x ≡ Some l → w < layer_cells mode l
    → symbol_cell mode s frames start y (first_segment s x * carriers mode + w) ≡ layer_cell_at mode l (epoch_packet mode l frames start x) y w
layer-symbol_cell mode s frames start y x l w e h =
    let c = carriers mode in
    let f = first_segment s x in
    let positive = carriers-positive mode in
    let segment : (f * c + w) / c ≡ f + w / c = mul-add-div_right positive f w in
    let carrier : (f * c + w) % c ≡ w % c = mul-add-mod_self_right f c w in
    let within : w / c < l.segments = (div-lt_iff_lt-mul positive).1 h in
    let named : segment_layer s (f + w / c) ≡ x = segment_layer-is s x l (f + w / c) e (omega arith) (omega (arith, within)) in
    let place : (f + w / c - f) * c + w % c ≡ w = ap (λ k. k * c + w % c) (let d : f + w / c - f ≡ w / c = omega arith in d) ∙ div-add-mod' w c in
    ap (λ k. epoch_cell mode s frames start y k ((f * c + w) % c)) segment
    ∙ ap (epoch_cell mode s frames start y (f + w / c)) carrier
    ∙ ap (λ z. cell_in mode s frames start y (f + w / c) (w % c) z (layer_of s z)) named
    ∙ ap (cell_in mode s frames start y (f + w / c) (w % c) x) e
    ∙ ap (layer_cell_at mode l (epoch_packet mode l frames start x) y) place
