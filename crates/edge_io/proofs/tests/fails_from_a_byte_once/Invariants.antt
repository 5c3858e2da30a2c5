use Rattle.std.proofs.Common.{◌≡◌, true}
use Rattle.edge_io.specs.MemoryShelf.{is_seat_open}
use Rattle.edge_io.specs.declared.shelf.Seat.TheVariants.{A}
use Rattle.edge_io.proofs.tests.fails_from_a_byte_once.Given as goal

abbrev pub invariant-loop-result : goal.invariant-loop-result
invariant-loop-result g l = is_seat_open l.shelf A ≡ true
