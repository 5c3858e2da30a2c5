-- The symbols of a frame are those that are sent.
use Rattle.std.proofs.Common.{◌≡◌, ℕ, ◌+◌, ◌*◌, ◌<◌, Bool, false, Option, Some, None, List, ◌∷◌, ◌++◌, length, take, drop, get_or, flat_map, refl, ap, sym, subst, ◌∙◌, arith}
use Rattle.std.specs.Prelude.{slice_get}
use Rattle.std.specs.List.{range_with_len}
use Rattle.std.specs.Int.{from_bool}
use Rattle.std.proofs.lemmas.List.Concat.{flat_map-append}
use Rattle.std.proofs.Math.Nat.{add-mul}
use Rattle.isdbt_base.specs.declared.kinds.Mode.{Mode}
use Rattle.isdbt_base.specs.declared.kinds.Layer.{Layer}
use Rattle.isdbt_base.specs.declared.kinds.Layer.TheVariants.{A, B, C}
use Rattle.isdbt_base.specs.LayerParameters.{LayerParameters}
use Rattle.isdbt_base.specs.Parameters.{Parameters, IsAccepted, layer_of, number_of}
use Rattle.isdbt_base.specs.Numbers.{carriers, layer_cells, first_segment, packets_per_frame}
use Rattle.isdbt_base.specs.Frames.{FramePackets}
use Rattle.isdbt_base.proofs.RangeLaws.{flat_map-same}
use Rattle.cell_map.specs.declared.cell.Cell.{Cell}
use Rattle.coder_core.specs.SentCells.{epoch_packet, layer_cell_at, epoch_cell, cell_bytes, symbol_bytes, epoch_frame_cells}
use Rattle.coder_core.specs.Symbols.{cells_bytes, layers_symbol, first_symbols}
use Rattle.coder_core.specs.UsedLayers.{AreCellsOf}
use Rattle.coder_core.specs.InputFrames.{packet_in}
use Rattle.coder_core.specs.LayerPart.{packets_of, symbol_cells, HasCellsOf}
use Rattle.coder_core.specs.Coder.{IsFrameOf}
use Rattle.coder_core.specs.declared.layer_part.LayerPart.{LayerPart}
use Rattle.coder_core.proofs.Ranges.{range-split}
use Rattle.coder_core.proofs.CellLists.{part-get, part-length, bytes-cells}
use Rattle.coder_core.proofs.FrameSymbols.{cells-segments, cells-all}
use Rattle.coder_core.proofs.SegmentCells.{symbol_cell, layer-symbol_cell}

-- cells are those of a layer in symbol y of an epoch
pub record IsPart (mode : Mode) (s : Parameters) (frames : FramePackets) (start y : ℕ) (x : Layer) (xs : List Cell) : Type 0 where
  pub size : length xs ≡ number_of (layer_cells mode) (layer_of s x)
  pub each : (w : ℕ) → w < length xs → slice_get xs w ≡ Some (symbol_cell mode s frames start y (first_segment s x * carriers mode + w))

-- the cells of symbol k, in those of a frame
part-none : (mode : Mode) (s : Parameters) (frames : FramePackets) (start y : ℕ) (x : Layer) (xs : List Cell) → layer_of s x ≡ None → IsPart mode s frames start y x (take 0 xs)
part-none mode s frames start y x xs e = record { size = sym (ap (number_of (layer_cells mode)) e); each = λ w h. absurd (omega arith) }

part-some : (mode : Mode) (s : Parameters) (frames : FramePackets) (start g : ℕ) (x : Layer) (l : LayerParameters) (cells : List Cell) (k : ℕ) → layer_of s x ≡ Some l → k < 204 → AreCellsOf mode (Some l) x frames start g cells
    → IsPart mode s frames start (204 * g + k) x (take (layer_cells mode l) (drop (layer_cells mode l * k) cells))
part-some mode s frames start g x l cells k e h are =
    let n = layer_cells mode l in
    let part = take n (drop (n * k) cells) in
    let size : length part ≡ n = part-length n (n * k) cells (layer_cell_at mode l (epoch_packet mode l frames start x) (204 * g + k)) (λ w less. are k w h less) in
    record {
      size = size ∙ sym (ap (number_of (layer_cells mode)) e);
      each = λ w less. (let within : w < n = omega (arith, size, less) in
          part-get n (n * k) cells w within ∙ are k w h within ∙ ap Some (sym (layer-symbol_cell mode s frames start (204 * g + k) x l w e within)));
    }

pub part : (mode : Mode) (s : Parameters) (frames : FramePackets) (start g : ℕ) (x : Layer) (o : Option LayerParameters) (cells : List Cell) (k : ℕ) → layer_of s x ≡ o → k < 204 → AreCellsOf mode o x frames start g cells
    → IsPart mode s frames start (204 * g + k) x (take (number_of (layer_cells mode) o) (drop (number_of (layer_cells mode) o * k) cells))
part mode s frames start g x None cells k e h are = part-none mode s frames start (204 * g + k) x (drop (0 * k) cells) e
part mode s frames start g x (Some l) cells k e h are = part-some mode s frames start g x l cells k e h are

-- ---- a symbol

-- the bytes of cell n of a symbol
abbrev cell_bytes_at : Mode → Parameters → FramePackets → ℕ → ℕ → ℕ → List ℕ
cell_bytes_at mode s frames start y n = cell_bytes (symbol_cell mode s frames start y n)

-- the bytes of the cells of a layer, among those of the symbol
part-bytes : (mode : Mode) (s : Parameters) (frames : FramePackets) (start y : ℕ) (x : Layer) (xs : List Cell) (a n : ℕ) → IsPart mode s frames start y x xs → a ≡ first_segment s x * carriers mode → n ≡ length xs
    → flat_map (cell_bytes_at mode s frames start y) (range_with_len a n) ≡ cells_bytes xs
part-bytes mode s frames start y x xs a n is at size =
    let f = cell_bytes_at mode s frames start y in
    ap (λ k. flat_map f (range_with_len k n)) at ∙ ap (λ k. flat_map f (range_with_len (first_segment s x * carriers mode) k)) size
    ∙ bytes-cells (symbol_cell mode s frames start y) xs (first_segment s x * carriers mode) is.each

pub symbol-is : (mode : Mode) (s : Parameters) (frames : FramePackets) (start y : ℕ) (tmcc : Bool) (a b c : List Cell) → IsAccepted s → IsPart mode s frames start y A a → IsPart mode s frames start y B b → IsPart mode s frames start y C c
    → layers_symbol tmcc a b c ≡ symbol_bytes mode tmcc (epoch_cell mode s frames start y)
unfolding layers_symbol symbol_bytes
symbol-is mode s frames start y tmcc a b c accepted ia ib ic =
    let n = carriers mode in
    let f = cell_bytes_at mode s frames start y in
    let na = length a in
    let nb = length b in
    let nc = length c in
    let all : 13 * n ≡ na + (nb + nc) = (let e = cells-all mode s accepted in omega (arith, e, ia.size, ib.size, ic.size)) in
    let at_b : 0 + na ≡ first_segment s B * n = omega (arith, ia.size) in
    let at_c : 0 + na + nb ≡ first_segment s C * n =
    (let e = cells-segments mode s.b in let m = add-mul s.a.segments (number_of (λ l. l.segments) s.b) n in omega (arith, e, m, ia.size, ib.size)) in
    let split : flat_map f (range_with_len 0 (13 * n)) ≡ cells_bytes a ++ (cells_bytes b ++ cells_bytes c) =
    ap (λ k. flat_map f (range_with_len 0 k)) all
    ∙ ap (flat_map f) (range-split 0 na (nb + nc)) ∙ flat_map-append f (range_with_len 0 na) (range_with_len (0 + na) (nb + nc))
    ∙ ap (λ xs. xs ++ flat_map f (range_with_len (0 + na) (nb + nc))) (part-bytes mode s frames start y A a 0 na ia (omega arith) refl)
    ∙ ap (λ xs. cells_bytes a ++ xs) (ap (flat_map f) (range-split (0 + na) nb nc) ∙ flat_map-append f (range_with_len (0 + na) nb) (range_with_len (0 + na + nb) nc)
    ∙ ap (λ xs. xs ++ flat_map f (range_with_len (0 + na + nb) nc)) (part-bytes mode s frames start y B b (0 + na) nb ib at_b refl)
    ∙ ap (λ xs. cells_bytes b ++ xs) (part-bytes mode s frames start y C c (0 + na + nb) nc ic at_c refl)) in
    ap (λ xs. from_bool tmcc ∷ xs) (sym split)

-- ---- a frame

pub frame-is : (mode : Mode) (s : Parameters) (frames : FramePackets) (start g : ℕ) (word : List Bool) (a b c : ℕ → List Cell) → IsAccepted s
    → ((k : ℕ) → k < 204 → IsPart mode s frames start (204 * g + k) A (a k)) → ((k : ℕ) → k < 204 → IsPart mode s frames start (204 * g + k) B (b k)) → ((k : ℕ) → k < 204 → IsPart mode s frames start (204 * g + k) C (c k))
    → first_symbols word a b c 204 ≡ epoch_frame_cells mode s frames start g word
unfolding first_symbols epoch_frame_cells
frame-is mode s frames start g word a b c accepted ia ib ic =
    flat_map-same (λ k. layers_symbol (get_or word k false) (a k) (b k) (c k)) (λ k. symbol_bytes mode (get_or word k false) (epoch_cell mode s frames start (204 * g + k))) 0 204
    (λ k low high. symbol-is mode s frames start (204 * g + k) (get_or word k false) (a k) (b k) (c k) accepted (ia k (omega arith)) (ib k (omega arith)) (ic k (omega arith)))

-- ---- the coders of the layers

-- a coder of a layer has its cells of symbol k
pub part_of : (mode : Mode) (s : Parameters) (frames : FramePackets) (start g : ℕ) (x : Layer) (p : LayerPart) → p.mode ≡ mode → p.layer ≡ layer_of s x → HasCellsOf p x frames start g
    → (k : ℕ) → k < 204 → IsPart mode s frames start (204 * g + k) x (symbol_cells p k)
part_of mode s frames start g x p m l cells k h =
    subst (λ y. IsPart y s frames start (204 * g + k) x (symbol_cells p k)) m (part p.mode s frames start g x p.layer p.cells.items k (sym l) h cells)

-- the packets of a layer in a frame, as its coder takes them
pub frame_of : (mode : Mode) (s : Parameters) (bytes : List ℕ) (frames : FramePackets) (f : ℕ) (x : Layer) (p : LayerPart) → p.mode ≡ mode → p.layer ≡ layer_of s x → IsFrameOf s mode bytes frames f
    → (j : ℕ) → j < packets_of p → frames f x j ≡ packet_in bytes x j
frame_of mode s bytes frames f x p m l is j h =
    is.each x j (subst (λ n. j < n) (ap (λ y. number_of (packets_per_frame y) p.layer) m ∙ ap (number_of (packets_per_frame mode)) l) h)
