use Rattle.std.proofs.Common.{ap, ◌∙◌}
use Rattle.edge_io.specs.declared.shelf.Seat.TheVariants.{A}
use Rattle.edge_io.proofs.tests.shelf_with_ten.Goals as goal
use Rattle.edge_io.proofs.tests.shelf_with_ten.Goals.{then-told, else-told}

pub put-requires : goal.put-requires
put-requires c = c.new-shelf.ensures.no_names _

pub returns : goal.returns
returns c =
    let closed = ap (λ f. f A) c.put.ensures.seats.is_open ∙ c.new-shelf.ensures.closed A in
    elim c.if-told.branch [
      | then-told w ↦ rw w.shelf-is (ap (λ f. f A) w.fail_open.ensures.seats.is_open ∙ closed)
      | else-told w ↦ rw w.shelf-is closed
    ]
