-- The symbols of a frame from the cells of its layers, one after the other.
use Rattle.std.proofs.Common.{◌≡◌, ℕ, ◌+◌, ◌*◌, ◌≤◌, ◌<◌, Bool, false, List, [], ◌∷◌, ◌++◌, get_or, flat_map, refl, ap, sym, ◌∙◌, arith}
use Rattle.std.specs.List.{range_with_len}
use Rattle.std.specs.Prelude.{Option, Some, None}
use Rattle.std.proofs.lemmas.List.{append-nil}
use Rattle.std.proofs.lemmas.List.Concat.{flat_map-append, flat_map-cons}
use Rattle.std.proofs.Math.Nat.{mul-add, add-mul, mul-le-mul_left}
use Rattle.isdbt_base.specs.declared.kinds.Mode.{Mode}
use Rattle.isdbt_base.specs.declared.kinds.Layer.TheVariants.{A, B, C}
use Rattle.isdbt_base.specs.LayerParameters.{LayerParameters}
use Rattle.isdbt_base.specs.Parameters.{Parameters, IsAccepted, layer_of, number_of}
use Rattle.isdbt_base.specs.Numbers.{carriers, layer_cells}
use Rattle.cell_map.specs.declared.cell.Cell.{Cell}
use Rattle.coder_core.specs.Symbols.{layers_symbol, first_symbols}
use Rattle.coder_core.specs.LayerPart.{cells_of}
use Rattle.coder_core.specs.declared.layer_part.LayerPart.{LayerPart}
use Rattle.coder_core.proofs.Ranges.{range-more}

-- symbol k
abbrev pub symbol_at : List Bool → (ℕ → List Cell) → (ℕ → List Cell) → (ℕ → List Cell) → ℕ → List ℕ
symbol_at word a b c k = layers_symbol (get_or word k false) (a k) (b k) (c k)

pub first_symbols-zero : (word : List Bool) (a b c : ℕ → List Cell) → first_symbols word a b c 0 ≡ []
unfolding first_symbols
first_symbols-zero word a b c = refl

pub first_symbols-more : (word : List Bool) (a b c : ℕ → List Cell) (n : ℕ) → first_symbols word a b c n ++ symbol_at word a b c n ≡ first_symbols word a b c (n + 1)
unfolding first_symbols
first_symbols-more word a b c n =
    let f = symbol_at word a b c in
    sym (ap (flat_map f) (range-more n) ∙ flat_map-append f (range_with_len 0 n) (n ∷ [])
    ∙ ap (λ xs. flat_map f (range_with_len 0 n) ++ xs) (flat_map-cons f n [] ∙ append-nil (f n)))

-- ---- their length

-- the cells of a layer that may be unused, by its segments
pub cells-segments : (mode : Mode) (o : Option LayerParameters) → number_of (layer_cells mode) o ≡ number_of (λ l. l.segments) o * carriers mode
cells-segments mode None = (let e : 0 ≡ 0 * carriers mode = omega arith in e)
cells-segments mode (Some l) = refl

-- the used layers have all cells of a symbol
pub cells-all : (mode : Mode) (s : Parameters) → IsAccepted s → number_of (layer_cells mode) (layer_of s A) + number_of (layer_cells mode) (layer_of s B) + number_of (layer_cells mode) (layer_of s C) ≡ 13 * carriers mode
cells-all mode s accepted =
    let n = carriers mode in
    let a = s.a.segments in
    let b = number_of (λ l. l.segments) s.b in
    let c = number_of (λ l. l.segments) s.c in
    ap (λ k. a * n + k + number_of (layer_cells mode) s.c) (cells-segments mode s.b) ∙ ap (λ k. a * n + b * n + k) (cells-segments mode s.c)
    ∙ sym (add-mul (a + b) c n ∙ ap (λ k. k + c * n) (add-mul a b n)) ∙ ap (λ k. k * n) accepted.segments

-- those of three coders too
pub part_cells-all : (mode : Mode) (s : Parameters) (a b c : LayerPart) → IsAccepted s → a.mode ≡ mode → b.mode ≡ mode → c.mode ≡ mode → a.layer ≡ layer_of s A → b.layer ≡ layer_of s B → c.layer ≡ layer_of s C
    → cells_of a + cells_of b + cells_of c ≡ 13 * carriers mode
part_cells-all mode s a b c accepted am bm cm al bl cl =
    rw (am, bm, cm, al, bl, cl) (cells-all mode s accepted)

-- a symbol has a place in the frame
pub symbol-fits : (size k : ℕ) → k < 204 → size * k + size ≤ 204 * size
symbol-fits size k h =
    let next : k + 1 ≤ 204 = omega arith in
    let m = mul-le-mul_left size next in
    let e = mul-add size k 1 in
    omega (arith, m, e)
