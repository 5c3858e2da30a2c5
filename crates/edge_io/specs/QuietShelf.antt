-- What a quiet shelf shows.
use Rattle.std.specs.Prelude.{◌≡◌, ℕ, List, [], Bool, unwrap_or}
use Rattle.std.specs.declared.option.Option.{Option}
use Rattle.std.specs.Option.{option_map_or}
use Rattle.edge_io.specs.declared.shelf.Seat.{Seat}
use Rattle.edge_io.specs.declared.quiet_shelf.QuietShelf.{QuietShelf}
use Rattle.edge_io.specs.Entries.{told_content, rest_at}
use Rattle.edge_io.specs.PerSeat.{at_seat}

-- what was put under a name, if anything was
abbrev pub put_under : QuietShelf → List ℕ → Option (List ℕ)
put_under s name = told_content s.entries.items name

-- what a name holds: nothing where nothing was put under it
abbrev pub content_of : QuietShelf → List ℕ → List ℕ
content_of s name = unwrap_or (put_under s name) []

-- what a seat has left, and nothing where it is not open
abbrev pub rest_of : QuietShelf → Seat → List ℕ
rest_of s seat = option_map_or (rest_at s.entries.items) (at_seat s.cursors seat) []

abbrev pub is_seat_open : QuietShelf → Seat → Bool
is_seat_open s seat = at_seat s.opened seat

-- what each seat has left and whether it is open stay
pub record KeepsSeats (old new : QuietShelf) : Type 0 where
  pub rest : rest_of new ≡ rest_of old
  pub is_open : is_seat_open new ≡ is_seat_open old
