use Rattle.std.proofs.Common.{ap, ◌∙◌}
use Rattle.isdbt_cli.proofs.testing.shelf_of.Goals as goal

pub returns : goal.returns
returns c = λ seat. ap (λ f. f seat) c.fail_from.ensures.seats.is_open ∙ ap (λ f. f seat) c.fail_open.ensures.seats.is_open ∙ ap (λ f. f seat) c.pieces.ensures.seats.is_open
    ∙ ap (λ f. f seat) c.put-2.ensures.seats.is_open ∙ ap (λ f. f seat) c.put.ensures.seats.is_open ∙ c.new-shelf.ensures.closed seat
