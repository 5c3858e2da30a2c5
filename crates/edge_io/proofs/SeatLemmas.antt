-- What stands at each seat after a write to one.
use Rattle.std.proofs.Common.{◌<◌, List, length, IfSome}
use Rattle.std.proofs.lemmas.Option.{MatchOption-at_some}
use Rattle.std.specs.declared.option.Option.{Option}
use Rattle.std.specs.Option.{ForSome}
use Rattle.edge_io.specs.declared.shelf.Seat.{Seat}
use Rattle.edge_io.specs.declared.shelf.Seat.TheVariants.{A, B, C, In}
use Rattle.edge_io.specs.declared.per_seat.PerSeat.{PerSeat}
use Rattle.edge_io.specs.declared.entries.Entry.{Entry}
use Rattle.edge_io.specs.declared.entries.Cursor.{Cursor}
use Rattle.edge_io.specs.Entries.{ReadEntries}
use Rattle.edge_io.specs.PerSeat.{at_seat, with_seat}

-- what holds of the new value, and held of each old one, holds at each seat
pub kept_at_each : {T : Type 0} (P : T → Type 0) (p : PerSeat T) (seat : Seat) (value : T) → P value
    → ((any : Seat) → P (at_seat p any)) → (any : Seat) → P (at_seat (with_seat p seat value) any)
kept_at_each P p A value here before A = here
kept_at_each P p A value here before B = before B
kept_at_each P p A value here before C = before C
kept_at_each P p A value here before In = before In
kept_at_each P p B value here before A = before A
kept_at_each P p B value here before B = here
kept_at_each P p B value here before C = before C
kept_at_each P p B value here before In = before In
kept_at_each P p C value here before A = before A
kept_at_each P p C value here before B = before B
kept_at_each P p C value here before C = here
kept_at_each P p C value here before In = before In
kept_at_each P p In value here before A = before A
kept_at_each P p In value here before B = before B
kept_at_each P p In value here before C = before C
kept_at_each P p In value here before In = here

-- each open seat reads an entry after a write of a cursor, or of none, that is in the entries
pub entries_read_at_each : (cursors : PerSeat (Option Cursor)) (entries : List Entry) (seat : Seat) (cursor : Option Cursor)
    → ReadEntries cursors entries → IfSome cursor (λ p. p.entry < length entries) → ReadEntries (with_seat cursors seat cursor) entries
entries_read_at_each cursors entries seat cursor before within =
    kept_at_each (λ o. ForSome o (λ p. p.entry < length entries)) cursors seat cursor
    (λ x is. MatchOption-at_some _ _ x is within) before
