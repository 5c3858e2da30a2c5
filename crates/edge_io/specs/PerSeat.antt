-- One value for each seat.
use Rattle.edge_io.specs.declared.shelf.Seat.{Seat}
use Rattle.edge_io.specs.declared.shelf.Seat.TheVariants.{A, B, C, In}
use Rattle.edge_io.specs.declared.per_seat.PerSeat.{PerSeat}

-- the value of a seat
abbrev pub at_seat : {T : Type 0} → PerSeat T → Seat → T
at_seat p A = p.a
at_seat p B = p.b
at_seat p C = p.c
at_seat p In = p.input

-- the same but for one seat
abbrev pub with_seat : {T : Type 0} → PerSeat T → Seat → T → PerSeat T
with_seat p A value = record p { a = value }
with_seat p B value = record p { b = value }
with_seat p C value = record p { c = value }
with_seat p In value = record p { input = value }
