-- Names and what they hold.
use Rattle.std.specs.Prelude.{◌≡◌, ◌≢◌, ℕ, List, [], ◌∷◌, ◌++◌, Some, drop, find, slice_get, string_bytes, ◌<◌, length}
use Rattle.std.specs.declared.option.Option.{Option}
use Rattle.std.specs.Option.{option_map, option_map_or, ForSome}
use Rattle.std.specs.Str.{bytes_eq}
use Rattle.edge_io.specs.declared.shelf.Seat.{Seat}
use Rattle.edge_io.specs.declared.entries.Entry.{Entry}
use Rattle.edge_io.specs.declared.entries.Cursor.{Cursor}
use Rattle.edge_io.specs.declared.per_seat.PerSeat.{PerSeat}
use Rattle.edge_io.specs.PerSeat.{at_seat}

-- the bytes of the first entry with this name
abbrev pub told_content : List Entry → List ℕ → Option (List ℕ)
told_content entries name =
    option_map (λ e. e.bytes.items) (find (λ e. bytes_eq (string_bytes e.name) name) entries)

-- the bytes of the entry at an index
abbrev pub bytes_at : List Entry → ℕ → List ℕ
bytes_at entries index = option_map_or (λ e. e.bytes.items) (slice_get entries index) []

-- what is left from a cursor on
abbrev pub rest_at : List Entry → Cursor → List ℕ
rest_at entries cursor = drop cursor.taken (bytes_at entries cursor.entry)

-- each seat that is open reads an entry
abbrev pub ReadEntries : PerSeat (Option Cursor) → List Entry → Type 0
ReadEntries cursors entries =
    (seat : Seat) → ForSome (at_seat cursors seat) (λ cursor. cursor.entry < length entries)

-- one entry more, with this name and these bytes
pub record AddsEntry (old new : List Entry) (name bytes : List ℕ) : Type 0 where
  pub entry : Entry
  pub name_is : string_bytes entry.name ≡ name
  pub bytes_is : entry.bytes.items ≡ bytes
  pub added : new ≡ old ++ entry ∷ []

-- a name holds these bytes now, and every other name holds what it held
pub record Puts (old new : List ℕ → Option (List ℕ)) (name bytes : List ℕ) : Type 0 where
  pub put : new name ≡ Some bytes
  pub others : (other : List ℕ) → other ≢ name → new other ≡ old other
