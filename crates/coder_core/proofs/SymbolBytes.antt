-- The bytes of cells, one cell after the other.
use Rattle.std.proofs.Common.{◌≡◌, ℕ, ◌+◌, ◌<◌, ◌≤◌, List, [], ◌∷◌, ◌++◌, length, take, get_or, set, flat_map, refl, arith, ap, ◌∙◌, append_assoc, length-set}
use Rattle.std.proofs.lemmas.List.{append-nil, take_more, take_more_set}
use Rattle.std.proofs.lemmas.List.Concat.{flat_map-append, flat_map-cons}
use Rattle.cell_map.specs.declared.cell.Cell.{Cell}
use Rattle.coder_core.specs.SentCells.{cell_bytes}
use Rattle.coder_core.specs.Symbols.{cells_bytes}

pub cells_bytes-nil : cells_bytes [] ≡ []
unfolding cells_bytes
cells_bytes-nil = refl

-- one more cell
pub cells_bytes-more : (cells : List Cell) (k : ℕ) (d : Cell) → k < length cells → cells_bytes (take (k + 1) cells) ≡ cells_bytes (take k cells) ++ cell_bytes (get_or cells k d)
unfolding cells_bytes
cells_bytes-more cells k d h =
    ap (flat_map cell_bytes) (take_more cells k d h) ∙ flat_map-append cell_bytes (take k cells) (get_or cells k d ∷ [])
    ∙ ap (λ xs. flat_map cell_bytes (take k cells) ++ xs) (flat_map-cons cell_bytes (get_or cells k d) [] ∙ append-nil (cell_bytes (get_or cells k d)))

-- two bytes more
pub two-more : (out : List ℕ) (n m e : ℕ) (x y : ℕ) → m ≡ n + 1 → e ≡ n + 2 → e ≤ length out → take e (set (set out n x) m y) ≡ take n out ++ (x ∷ y ∷ [])
two-more out n m e x y is end room =
    let size = length-set out n x in
    let first = take_more_set out n x (omega arith) in
    let second = take_more_set (set out n x) m y (omega arith) in
    ap (λ k. take k (set (set out n x) m y)) (let at : e ≡ m + 1 = omega arith in at) ∙ second
    ∙ ap (λ k. take k (set out n x) ++ y ∷ []) is
    ∙ ap (λ xs. xs ++ y ∷ []) first ∙ append_assoc (take n out) (x ∷ []) (y ∷ [])
