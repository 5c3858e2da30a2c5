-- A frame that is read symbol by symbol.
use Rattle.std.proofs.Common.{◌≡◌, ℕ, ◌+◌, ◌*◌, ◌≤◌, ◌<◌, min, List, ◌++◌, length, take, drop, Some, IfSome, refl, ap, sym, ◌∙◌, subst, arith, length-drop, drop-drop}
use Rattle.std.specs.declared.option.Option.{Option}
use Rattle.std.proofs.Math.Seq.{take-add}
use Rattle.std.proofs.lemmas.List.{take_all, length-take-le}
use borrow.Rule.Slice.PartMut.{put_mid}
use Rattle.edge_io.specs.Known.{drop_known}
use Rattle.edge_io.proofs.Known.{behind}
use Rattle.cell_map.specs.declared.cell.Cell.{Cell}
use Rattle.seg_receiver.specs.FrameReading.{Came, Stopped}

-- the buffer's first m bytes are the first that were left, which are taken
pub record Holds (buffer rest : List ℕ) (left : Option (List ℕ)) (m : ℕ) : Type 0 where
  pub within : m ≤ length rest
  pub front : take m buffer ≡ take m rest
  pub left_is : left ≡ Some (drop m rest)

pub holds-none : (buffer rest : List ℕ) (left : Option (List ℕ)) → left ≡ Some rest → Holds buffer rest left 0
holds-none buffer rest left is = record { within = omega arith; front = refl; left_is = is }

-- a part of the buffer was filled behind them
step-front : (buffer part rest : List ℕ) (left : Option (List ℕ)) (m n k : ℕ) → m ≤ length buffer → n ≤ length part → Holds buffer rest left m → take n part ≡ take n (drop m rest)
    → take (m + n) (put_mid m k buffer part) ≡ take (m + n) rest
step-front buffer part rest left m n k fits some so_far came =
    behind (Some (drop m rest)) m n k buffer part fits some came
    ∙ ap (λ xs. xs ++ take n (drop m rest)) so_far.front ∙ sym (take-add m n rest)

pub holds-more : (buffer part rest : List ℕ) (left left' : Option (List ℕ)) (m n k : ℕ) → m ≤ length buffer → n ≡ length part → Holds buffer rest left m → Came part (drop m rest) left' n → Holds (put_mid m k buffer part) rest left' (m + n)
holds-more buffer part rest left left' m n k fits full so_far came =
    let counted = came.all in
    let size = length-drop m rest in
    let within = so_far.within in
    record {
      within = omega (arith, counted, size, within);
      front = step-front buffer part rest left m n k fits (omega (arith, full)) so_far came.front;
      left_is = came.left_is ∙ ap Some (drop-drop n m rest);
    }

-- the input ended in the part
pub came-short : (buffer part rest : List ℕ) (left left' : Option (List ℕ)) (m n k : ℕ) → m + length part ≤ length buffer → length (put_mid m k buffer part) ≡ length buffer → n < length part → Holds buffer rest left m → Came part (drop m rest) left' n
    → Came (put_mid m k buffer part) rest left' (m + n)
came-short buffer part rest left left' m n k fits same short so_far came =
    let counted = came.all in
    let size = length-drop m rest in
    let within = so_far.within in
    record {
      all = omega (arith, counted, size, within, same);
      front = step-front buffer part rest left m n k (omega arith) (omega arith) so_far came.front;
      left_is = came.left_is ∙ ap Some (drop-drop n m rest);
    }

-- a read failed in the part
pub stopped-in : (buffer part new rest : List ℕ) (left left' : Option (List ℕ)) (m : ℕ) → m + length part ≤ length new → Holds buffer rest left m → Stopped part (drop m rest) left' → Stopped new rest left'
stopped-in buffer part new rest left left' m fits so_far stop =
    let below = stop.below in
    let inside = stop.within in
    let size = length-drop m rest in
    let within = so_far.within in
    record {
      taken = m + stop.taken;
      below = omega (arith, below);
      within = omega (arith, inside, size, within);
      left_is = stop.left_is ∙ ap Some (drop-drop stop.taken m rest);
    }

-- all parts were filled
pub came-whole : (buffer rest : List ℕ) (left : Option (List ℕ)) (m n : ℕ) → m ≡ length buffer → n ≡ m → Holds buffer rest left m → Came buffer rest left n
came-whole buffer rest left m n full is so_far =
    let within = so_far.within in
    record {
      all = omega (arith, full, is, within);
      front = ap (λ k. take k buffer) is ∙ so_far.front ∙ ap (λ k. take k rest) (sym is);
      left_is = so_far.left_is ∙ ap (λ k. Some (drop k rest)) (sym is);
    }

-- a part that was filled is a piece of what was left
pub full-part : (part rest : List ℕ) (left : Option (List ℕ)) (m n : ℕ) → n ≡ length part → Came part (drop m rest) left n → part ≡ take n (drop m rest)
full-part part rest left m n full came = sym (take_all n part (omega (arith, full))) ∙ came.front

-- ---- one read

pub came-known : (n : ℕ) (buffer rest : List ℕ) (known left : Option (List ℕ)) → known ≡ Some rest → IfSome known (λ bytes. n ≡ min (length buffer) (length bytes)) → IfSome known (λ bytes. take n buffer ≡ take n bytes) → left ≡ drop_known n known → Came buffer rest left n
came-known n buffer rest known left told counted copied taken =
    let P : Option (List ℕ) → Type 0 = λ o. IfSome o (λ bytes. n ≡ min (length buffer) (length bytes)) in
    let Q : Option (List ℕ) → Type 0 = λ o. IfSome o (λ bytes. take n buffer ≡ take n bytes) in
    record { all = subst P told counted; front = subst Q told copied; left_is = taken ∙ ap (drop_known n) told }

pub stopped-known : (n : ℕ) (buffer rest : List ℕ) (known left : Option (List ℕ)) → known ≡ Some rest → n < length buffer → IfSome known (λ bytes. n ≤ length bytes) → left ≡ drop_known n known → Stopped buffer rest left
stopped-known n buffer rest known left told less within taken =
    let P : Option (List ℕ) → Type 0 = λ o. IfSome o (λ bytes. n ≤ length bytes) in
    record { taken = n; below = less; within = subst P told within; left_is = taken ∙ ap (drop_known n) told }

-- ---- the front of a buffer

-- a part at the front of a buffer has its size
pub part_size : (buffer part : List ℕ) (size room : ℕ) → size ≡ room → room ≤ length buffer → length part ≡ length (take size buffer) → length part ≡ size
part_size buffer part size room is fits same = same ∙ length-take-le size buffer (omega (arith, is, fits))

-- the front of a buffer that has room for a frame has its size
pub front-size : (buffer part : List ℕ) (n size : ℕ) → 204 * n ≡ size → size ≤ length buffer → length part ≡ length (take (204 * n) buffer) → length part ≡ size
front-size buffer part n size is fits same =
    let cut = length-take-le (204 * n) buffer (omega (arith, is, fits)) in
    omega (arith, is, cut, same)

-- the front of the cells that has room for those of so many segments of a symbol
pub cells-size : (cells : List Cell) (count segments n size : ℕ) → count ≡ segments → n ≡ size → segments * size ≤ length cells → length (take (count * n) cells) ≡ segments * size
cells-size cells count segments n size many is fits =
    let e : count * n ≡ segments * size = ap (λ m. m * n) many ∙ ap (λ m. segments * m) is in
    length-take-le (count * n) cells (omega (arith, e, fits)) ∙ e
