-- Entries that are found by their name, and one entry more.
use Rattle.std.proofs.Common.{◌≡◌, ◌<◌, ℕ, List, [], ◌∷◌, ◌++◌, None, Some, true, false, Bool, cond, length, position, string_bytes, refl, sym, ap, ◌∙◌, zero, suc, arith, ◌≤◌, MatchOption, Result, Ok, Err, OnOk, OnErr}
use borrow.Author.Tests.{ltb-true, ltb-false}
use Rattle.std.specs.declared.option.Option.{Option}
use Rattle.std.specs.List.{find, slice_get, position_or_len}
use Rattle.std.proofs.lemmas.List.Folds.{find_at}
use Rattle.std.proofs.lemmas.Option.{cond_some, slice_get_past}
use Rattle.std.specs.Option.{option_map, option_map_or, ForSome}
use Rattle.std.specs.Str.{bytes_eq}
use Rattle.std.proofs.lemmas.Slice.Eq.{bytes_eq-Decides}
use Rattle.edge_io.specs.declared.entries.Entry.{Entry}
use Rattle.edge_io.specs.declared.entries.Cursor.{Cursor}
use Rattle.edge_io.specs.Entries.{told_content, bytes_at, rest_at, AddsEntry, Puts}

both : (b : Bool) → (b ≡ true → ⊥) → b ≡ false
both true ne = absurd (ne refl)
both false ne = refl

-- a name that wasn't there holds the bytes of the entry that was added
found : (old : List Entry) (entry : Entry) (name : List ℕ) → string_bytes entry.name ≡ name → told_content old name ≡ None
    → told_content (old ++ entry ∷ []) name ≡ Some entry.bytes.items
found [] entry name is none = rw ((bytes_eq-Decides (string_bytes entry.name) name).1 is) refl
found (first ∷ old) entry name is none =
    go (bytes_eq (string_bytes first.name) name) none (found old entry name is)
  where
    go : (b : Bool) → option_map (λ e. e.bytes.items) (cond b (Some first) (find (λ e. bytes_eq (string_bytes e.name) name) old)) ≡ None
        → (told_content old name ≡ None → told_content (old ++ entry ∷ []) name ≡ Some entry.bytes.items)
        → option_map (λ e. e.bytes.items) (cond b (Some first) (find (λ e. bytes_eq (string_bytes e.name) name) (old ++ entry ∷ []))) ≡ Some entry.bytes.items
    go true e rest = absurd (cc)
    go false e rest = rest e

-- another name holds what it held
same : (old : List Entry) (entry : Entry) (other : List ℕ) → bytes_eq (string_bytes entry.name) other ≡ false
    → find (λ e. bytes_eq (string_bytes e.name) other) (old ++ entry ∷ []) ≡ find (λ e. bytes_eq (string_bytes e.name) other) old
same [] entry other differs = rw differs refl
same (first ∷ old) entry other differs = rw (same old entry other differs) refl

puts : (old new : List Entry) (name bytes : List ℕ) → AddsEntry old new name bytes → told_content old name ≡ None
    → Puts (told_content old) (told_content new) name bytes
puts old new name bytes a none = record {
  put = rw a.added (found old a.entry name a.name_is none) ∙ ap Some a.bytes_is;
  others = λ other ne. rw a.added (ap (option_map (λ e. e.bytes.items)) (same old a.entry other
      (both _ (λ t. ne (sym ((bytes_eq-Decides (string_bytes a.entry.name) other).0 t) ∙ a.name_is)))));
}

slice_get_front : {X : Type 0} (xs ys : List X) (i : ℕ) → i < length xs → slice_get (xs ++ ys) i ≡ slice_get xs i
slice_get_front [] ys i within = absurd (omega arith)
slice_get_front (x ∷ xs) ys zero within = refl
slice_get_front (x ∷ xs) ys (suc i) within = slice_get_front xs ys i (omega arith)

-- a cursor in the old entries keeps what it has left where one more is added
rest_stays : (old new : List Entry) (name bytes : List ℕ) (cursor : Option Cursor) → AddsEntry old new name bytes
    → ForSome cursor (λ p. p.entry < length old)
    → option_map_or (rest_at new) cursor [] ≡ option_map_or (rest_at old) cursor []
rest_stays old new name bytes None a within = refl
rest_stays old new name bytes (Some cursor) a within =
    rw (a.added, slice_get_front old (a.entry ∷ []) cursor.entry (within cursor refl)) refl

some_at : (entries : List Entry) (i : ℕ) → i < length entries
    → option_map (λ e. e.bytes.items) (slice_get entries i) ≡ Some (bytes_at entries i)
some_at [] i within = absurd (omega arith)
some_at (first ∷ entries) zero within = refl
some_at (first ∷ entries) (suc i) within = some_at entries i (omega arith)

none_false : (b : Bool) (i : ℕ) → cond b (Some i) None ≡ None → b ≡ false
none_false true i is = absurd (cc)
none_false false i is = refl

-- the first entry of a name has the bytes that the name holds, and a name that has no entry isn't told
pub found_at : (entries : List Entry) (name : List ℕ) (index : Option ℕ) → index ≡ position (λ e. bytes_eq (string_bytes e.name) name) entries
    → MatchOption index (told_content entries name ≡ None) (λ i. told_content entries name ≡ Some (bytes_at entries i))
found_at entries name None is =
    let first = position_or_len (λ (e : Entry). bytes_eq (string_bytes e.name) name) entries in
    let past : length entries ≤ first = omega (arith, ltb-false first (length entries) (none_false _ first (sym is))) in
    ap (option_map (λ e. e.bytes.items)) (find_at _ entries ∙ slice_get_past entries first past)
found_at entries name (Some i) is =
    let first = position_or_len (λ (e : Entry). bytes_eq (string_bytes e.name) name) entries in
    let at = cond_some _ first i (sym is) in
    let within : i < length entries = omega (arith, ltb-true first (length entries) at.0, at.1) in
    ap (option_map (λ e. e.bytes.items)) (find_at _ entries ∙ ap (slice_get entries) at.1) ∙ some_at entries i within

pub puts_on_ok : {T E : Type 0} (old new : List Entry) (name bytes : List ℕ) (result : Result T E)
    → OnOk result (AddsEntry old new name bytes) → told_content old name ≡ None
    → OnOk result (Puts (told_content old) (told_content new) name bytes)
puts_on_ok old new name bytes (Ok _) a none = puts old new name bytes a none
puts_on_ok old new name bytes (Err _) a none = tt

-- whether an entry is added or not, a cursor keeps what it has left
pub rest_stays_either : {T E : Type 0} (old new : List Entry) (name bytes : List ℕ) (cursor : Option Cursor) (result : Result T E)
    → OnOk result (AddsEntry old new name bytes) → OnErr result (new ≡ old) → ForSome cursor (λ p. p.entry < length old)
    → option_map_or (rest_at new) cursor [] ≡ option_map_or (rest_at old) cursor []
rest_stays_either old new name bytes cursor (Ok _) a same within = rest_stays old new name bytes cursor a within
rest_stays_either old new name bytes cursor (Err _) a same within = rw same refl
