use Rattle.std.proofs.Common.{◌≡◌, true}
use Rattle.edge_io.specs.MemoryShelf.{is_seat_open}
use Rattle.edge_io.specs.declared.shelf.Seat.TheVariants.{A}
use Rattle.edge_io.proofs.tests.reads_in_pieces.Given as goal

abbrev pub invariant-loop-count : goal.invariant-loop-count
invariant-loop-count g l = is_seat_open l.shelf A ≡ true
