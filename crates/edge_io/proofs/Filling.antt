-- What a buffer holds when it was filled behind its first bytes.
use Rattle.std.proofs.Common.{◌≡◌, ℕ, ◌+◌, ◌-◌, ◌≤◌, ◌<◌, min, List, ◌++◌, length, take, drop, Some, IfSome, ap, sym, ◌∙◌, subst, arith, length-drop}
use Rattle.std.specs.declared.option.Option.{Option}
use Rattle.std.proofs.lemmas.List.{length-take-le}
use borrow.Rule.Slice.PartMut.{put_mid, mid_of, same_len_mid}
use Rattle.edge_io.specs.Known.{drop_known}
use Rattle.edge_io.proofs.Known.{behind}
use Rattle.edge_io.specs.Reading.{FilledTo, StoppedBelow}

minus : (held n : ℕ) → held + n - held ≡ n
minus held n = omega arith

-- a part that fills the buffer behind its first bytes
part-size : (held : ℕ) (buf part : List ℕ) → length part ≡ length (mid_of held (length buf - held) buf) → length part ≡ length buf - held
part-size held buf part same = same ∙ length-take-le (length buf - held) (drop held buf) (let e = length-drop held buf in omega (arith, e))

pub filled : (held n : ℕ) (buf part bytes : List ℕ) (known left : Option (List ℕ)) → held ≤ length buf → known ≡ Some bytes
    → length part ≡ length (mid_of held (length buf - held) buf) → n ≤ length part → IfSome known (λ bytes. n ≡ min (length part) (length bytes)) → IfSome known (λ bytes. take n part ≡ take n bytes) → left ≡ drop_known n known
    → FilledTo held buf (put_mid held (length buf - held) buf part) bytes left (held + n)
filled held n buf part bytes known left le told same fits counted copied rest =
    let size = same_len_mid held (length buf - held) buf part same in
    let room = part-size held buf part same in
    let P : Option (List ℕ) → Type 0 = λ o. IfSome o (λ bytes. n ≡ min (length part) (length bytes)) in
    let count : n ≡ min (length part) (length bytes) = subst P told counted in
    let Q : Option (List ℕ) → Type 0 = λ o. IfSome o (λ bytes. take (held + n) (put_mid held (length buf - held) buf part) ≡ take held buf ++ take n bytes) in
    let front : take (held + n) (put_mid held (length buf - held) buf part) ≡ take held buf ++ take n bytes = subst Q told (behind known held n (length buf - held) buf part le fits copied) in
    record {
      count = (let e : length part ≡ length (put_mid held (length buf - held) buf part) - held = room ∙ ap (λ m. m - held) (sym size) in ap (λ m. held + m) (count ∙ ap (λ m. min m (length bytes)) e));
      front = front ∙ ap (λ m. take held buf ++ take m bytes) (sym (minus held n));
      left_is = rest ∙ ap (drop_known n) told ∙ ap (λ m. Some (drop m bytes)) (sym (minus held n));
    }

pub stopped : (held n : ℕ) (buf part bytes : List ℕ) (known left : Option (List ℕ)) → held ≤ length buf → known ≡ Some bytes → length part ≡ length (mid_of held (length buf - held) buf) → n < length part → IfSome known (λ bytes. n ≤ length bytes) → left ≡ drop_known n known
    → StoppedBelow held (put_mid held (length buf - held) buf part) bytes left
stopped held n buf part bytes known left le told same less within rest =
    let size = same_len_mid held (length buf - held) buf part same in
    let room = part-size held buf part same in
    let P : Option (List ℕ) → Type 0 = λ o. IfSome o (λ bytes. n ≤ length bytes) in
    let some : n ≤ length bytes = subst P told within in
    let below : held + n < length buf = omega (arith, room, less, le) in
    record { taken = n; below = subst (λ m. held + n < m) (sym size) below; within = some; left_is = rest ∙ ap (drop_known n) told }
