use Rattle.std.proofs.Common.{◌+◌, Bool, true, false, Ok, drop, sym, subst, arith}
use Rattle.edge_io.specs.declared.shelf.Seat.TheVariants as seats
use Rattle.edge_io.specs.FrameAnswers.{Finished}
use Rattle.edge_io.specs.Reading.{EndsAnswer}
use Rattle.coder_core.specs.FrameSteps.{command_of, start_of, Progress}
use Rattle.coder_core.proofs.CodeProgress.{ended_at_limit, too_long, stopped_at_limit}
use Rattle.coder_core.proofs.reading.end_at_limit.Goals as goal

pub returns-in-Ok-true-clause-answer : goal.returns-in-Ok-true-clause-answer
returns-in-Ok-true-clause-answer g c = λ r frame before now is have so_far.
    let left' = g.H.Shelf.left c.ends.new.shelf seats.In in
    let here : Progress r r.limit 0 frame (g.H.Shelf.left c.args.shelf.now seats.In) before now = subst (λ n. Progress r n 0 frame (g.H.Shelf.left c.args.shelf.now seats.In) before now) (sym is) so_far in
    let P : Bool → Type 0 = λ b. EndsAnswer (drop (start_of r r.limit + 0) r.input) left' (Ok b) in
    let ends : P true = subst P c.in-Ok-true.field-0-test (c.in-Ok-true.ensures.answer _ here.left_is) in
    subst (λ n. Finished (command_of r) n before now left') is (ended_at_limit r frame _ left' before now here ends.0 ends.1)

pub returns-in-Ok-false-clause-answer : goal.returns-in-Ok-false-clause-answer
returns-in-Ok-false-clause-answer g c = λ r frame before now is have so_far.
    let left' = g.H.Shelf.left c.ends.new.shelf seats.In in
    let here : Progress r r.limit 0 frame (g.H.Shelf.left c.args.shelf.now seats.In) before now = subst (λ n. Progress r n 0 frame (g.H.Shelf.left c.args.shelf.now seats.In) before now) (sym is) so_far in
    let P : Bool → Type 0 = λ b. EndsAnswer (drop (start_of r r.limit + 0) r.input) left' (Ok b) in
    let ends : P false = subst P c.in-Ok-false.field-0-test (c.in-Ok-false.ensures.answer _ here.left_is) in
    too_long r frame _ left' before now here have ends.0 ends.1

pub returns-in-Err-clause-answer : goal.returns-in-Err-clause-answer
returns-in-Err-clause-answer g c = λ r frame before now is have so_far.
    let left' = g.H.Shelf.left c.ends.new.shelf seats.In in
    let here : Progress r r.limit 0 frame (g.H.Shelf.left c.args.shelf.now seats.In) before now = subst (λ n. Progress r n 0 frame (g.H.Shelf.left c.args.shelf.now seats.In) before now) (sym is) so_far in
    stopped_at_limit r frame _ left' before now here have (omega (arith, is, c.requires.some)) (c.in-Err.ensures.answer _ here.left_is)
