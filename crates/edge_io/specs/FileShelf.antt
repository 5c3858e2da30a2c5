-- What a file shelf shows.
use Rattle.std.specs.Prelude.{ℕ, List, Bool, is_some}
use Rattle.std.specs.declared.option.Option.{Option}
use Rattle.edge_io.specs.declared.shelf.Seat.{Seat}
use Rattle.edge_io.specs.declared.file_shelf.FileShelf.{FileShelf}
use Rattle.edge_io.specs.PerSeat.{at_seat}
use Rattle.edge_io.specs.Source.{source_left}

-- whether standard input was opened
abbrev pub standard_was_opened : {R F D I : Type 0} → FileShelf R F D I → Bool
standard_was_opened s = s.standard_taken

abbrev pub is_seat_open : {R F D I : Type 0} → FileShelf R F D I → Seat → Bool
is_seat_open s seat = is_some (at_seat s.sources seat)

abbrev pub fault_count : {R F D I : Type 0} → FileShelf R F D I → ℕ
fault_count s = s.faults

-- what the file or standard input at a seat tells of what it has left
abbrev pub known_left : {R F D I : Type 0} → (F → Option (List ℕ)) → (I → Option (List ℕ)) → FileShelf R F D I → Seat → Option (List ℕ)
known_left file_left standard_left s seat = source_left file_left standard_left (at_seat s.sources seat)
