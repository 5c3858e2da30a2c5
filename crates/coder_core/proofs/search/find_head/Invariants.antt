use Rattle.std.proofs.Common.{◌≡◌, ℕ, List, Some, true}
use Rattle.edge_io.specs.declared.shelf.Seat.TheVariants as seats
use Rattle.coder_core.proofs.Searching.{Searched}
use Rattle.coder_core.proofs.search.find_head.Given as goal

abbrev pub invariant-loop-number : goal.invariant-loop-number
invariant-loop-number g l = record {
  is_open : g.H.Shelf.is_open l.shelf seats.In ≡ true;
  still_open : g.H.Shelf.is_open l.shelf ≡ g.H.Shelf.is_open l.initial.shelf;
  kept : g.H.Shelf.faults l.shelf ≡ g.H.Shelf.faults l.initial.shelf;
  told : (input : List ℕ) → g.H.Shelf.left l.initial.shelf seats.In ≡ Some input → Searched input l.number (g.H.Shelf.left l.shelf seats.In);
}
