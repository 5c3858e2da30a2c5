-- What a memory shelf shows and is set to.
use Rattle.std.specs.Prelude.{◌≡◌, ℕ, List, [], Bool, is_some}
use Rattle.std.specs.declared.option.Option.{Option}
use Rattle.std.specs.Option.{option_map_or}
use Rattle.edge_io.specs.declared.shelf.Seat.{Seat}
use Rattle.edge_io.specs.declared.memory_shelf.MemoryShelf.{MemoryShelf}
use Rattle.edge_io.specs.Entries.{told_content, rest_at}
use Rattle.edge_io.specs.PerSeat.{at_seat}

-- what a name holds, and None where there is no such name
abbrev pub content_of : MemoryShelf → List ℕ → Option (List ℕ)
content_of s name = told_content s.entries.items name

-- what a seat has left, and nothing where it is not open
abbrev pub rest_of : MemoryShelf → Seat → List ℕ
rest_of s seat = option_map_or (rest_at s.entries.items) (at_seat s.cursors seat) []

-- how many bytes a seat gave since it was opened
abbrev pub taken_of : MemoryShelf → Seat → ℕ
taken_of s seat = option_map_or (λ cursor. cursor.taken) (at_seat s.cursors seat) 0

abbrev pub is_seat_open : MemoryShelf → Seat → Bool
is_seat_open s seat = is_some (at_seat s.cursors seat)

abbrev pub fault_count : MemoryShelf → ℕ
fault_count s = s.faults

-- how many bytes a read gives at most
abbrev pub most_given : MemoryShelf → ℕ
most_given s = s.most

abbrev pub next_open_fails : MemoryShelf → Seat → Bool
next_open_fails s seat = at_seat s.fail_open seat

-- the byte of a seat from which a read fails
abbrev pub fails_from : MemoryShelf → Seat → Option ℕ
fails_from s seat = at_seat s.fail_from seat

-- what each seat has left, how much it gave, and whether it is open stay
pub record KeepsSeats (old new : MemoryShelf) : Type 0 where
  pub rest : rest_of new ≡ rest_of old
  pub taken : taken_of new ≡ taken_of old
  pub is_open : is_seat_open new ≡ is_seat_open old
