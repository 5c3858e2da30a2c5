-- Lists of cells: parts of them, and their bytes.
use Rattle.std.proofs.Common.{◌≡◌, ℕ, zero, suc, ◌+◌, ◌<◌, List, [], ◌∷◌, ◌++◌, length, take, drop, flat_map, Some, refl, arith, ap, sym, ◌∙◌, length-drop}
use Rattle.std.specs.Prelude.{slice_get}
use Rattle.std.specs.List.{range_with_len}
use Rattle.std.proofs.lemmas.List.{length-take-le}
use Rattle.std.proofs.lemmas.List.Concat.{flat_map-cons}
use Rattle.std.proofs.lemmas.Option.{same_Some, slice_get_within}
use Rattle.cell_map.specs.declared.cell.Cell.{Cell}
use Rattle.coder_core.specs.SentCells.{cell_bytes}
use Rattle.coder_core.specs.Symbols.{cells_bytes}

slice_get-drop : {X : Type 0} (n : ℕ) (xs : List X) (i : ℕ) → slice_get (drop n xs) i ≡ slice_get xs (n + i)
slice_get-drop zero xs i = ap (slice_get xs) (let e : i ≡ 0 + i = omega arith in e)
slice_get-drop (suc n) [] i = refl
slice_get-drop (suc n) (x ∷ xs) i = slice_get-drop n xs i ∙ ap (slice_get (x ∷ xs)) (let e : suc (n + i) ≡ suc n + i = omega arith in e)

slice_get-take : {X : Type 0} (n : ℕ) (xs : List X) (i : ℕ) → i < n → slice_get (take n xs) i ≡ slice_get xs i
slice_get-take zero xs i h = absurd (omega arith)
slice_get-take (suc n) [] i h = refl
slice_get-take (suc n) (x ∷ xs) zero h = refl
slice_get-take (suc n) (x ∷ xs) (suc i) h = slice_get-take n xs i (omega arith)

-- a part of a list
pub part-get : {X : Type 0} (n a : ℕ) (xs : List X) (i : ℕ) → i < n → slice_get (take n (drop a xs)) i ≡ slice_get xs (a + i)
part-get n a xs i h = slice_get-take n (drop a xs) i h ∙ slice_get-drop a xs i

-- its length, where its elements are known
pub part-length : {X : Type 0} (n a : ℕ) (xs : List X) (f : ℕ → X) → ((i : ℕ) → i < n → slice_get xs (a + i) ≡ Some (f i)) → length (take n (drop a xs)) ≡ n
part-length zero a xs f h = refl
part-length (suc m) a xs f h =
    let within = slice_get_within xs (a + m) (f m) (h m (omega arith)) in
    let size = length-drop a xs in
    length-take-le (suc m) (drop a xs) (omega (arith, within, size))

-- the bytes of cells that a function gives, from a number on
pub bytes-cells : (cell : ℕ → Cell) (xs : List Cell) (a : ℕ) → ((w : ℕ) → w < length xs → slice_get xs w ≡ Some (cell (a + w))) → flat_map (λ n. cell_bytes (cell n)) (range_with_len a (length xs)) ≡ cells_bytes xs
unfolding cells_bytes
bytes-cells cell [] a h = refl
bytes-cells cell (x ∷ xs) a h =
    let first : x ≡ cell a = same_Some x (cell a) (h 0 (omega arith) ∙ ap (λ k. Some (cell k)) (let e : a + 0 ≡ a = omega arith in e)) in
    let rest = bytes-cells cell xs (a + 1) (λ w less. h (suc w) (omega arith) ∙ ap (λ k. Some (cell k)) (let e : a + suc w ≡ a + 1 + w = omega arith in e)) in
    flat_map-cons (λ n. cell_bytes (cell n)) a (range_with_len (a + 1) (length xs))
    ∙ ap (λ c. cell_bytes c ++ flat_map (λ n. cell_bytes (cell n)) (range_with_len (a + 1) (length xs))) (sym first)
    ∙ ap (λ ys. cell_bytes x ++ ys) rest ∙ sym (flat_map-cons cell_bytes x xs)
