use Rattle.std.proofs.Common.{ap, ◌∙◌}
use Rattle.edge_io.specs.declared.shelf.Seat.TheVariants.{A, B, C}
use Rattle.chain_tests.proofs.commands.remux_plan.Goals as goal

pub open-requires : goal.open-requires
open-requires c = ap (λ f. f A) c.fail_from.ensures.seats.is_open ∙ ap (λ f. f A) c.put-3.ensures.seats.is_open ∙ ap (λ f. f A) c.put-2.ensures.seats.is_open ∙ ap (λ f. f A) c.put.ensures.seats.is_open ∙ c.new-shelf.ensures.closed A

pub open-requires-2 : goal.open-requires-2
open-requires-2 c = c.in_ok-open.ensures.other_open B (λ e. cc)
    ∙ ap (λ f. f B) c.fail_from.ensures.seats.is_open ∙ ap (λ f. f B) c.put-3.ensures.seats.is_open ∙ ap (λ f. f B) c.put-2.ensures.seats.is_open ∙ ap (λ f. f B) c.put.ensures.seats.is_open ∙ c.new-shelf.ensures.closed B

pub open-requires-3 : goal.open-requires-3
open-requires-3 c = c.in_ok-open-2.ensures.other_open C (λ e. cc) ∙ c.in_ok-open.ensures.other_open C (λ e. cc)
    ∙ ap (λ f. f C) c.fail_from.ensures.seats.is_open ∙ ap (λ f. f C) c.put-3.ensures.seats.is_open ∙ ap (λ f. f C) c.put-2.ensures.seats.is_open ∙ ap (λ f. f C) c.put.ensures.seats.is_open ∙ c.new-shelf.ensures.closed C

pub left_at-requires : goal.left_at-requires
left_at-requires c = ap (λ f. f A) c.remux-answer.ensures.still_open ∙ c.in_ok-open-3.ensures.other_open A (λ e. cc) ∙ c.in_ok-open-2.ensures.other_open A (λ e. cc)
    ∙ c.in_ok-open.ensures.opened
