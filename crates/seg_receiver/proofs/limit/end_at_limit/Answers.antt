use Rattle.std.proofs.Common.{Bool, true, false, subst, Ok, drop}
use Rattle.edge_io.specs.declared.shelf.Seat.TheVariants as seats
use Rattle.edge_io.specs.Reading.{EndsAnswer}
use Rattle.seg_receiver.specs.CellStream.{view_of}
use Rattle.seg_receiver.proofs.ReceiveProgress.{ended_at_limit, too_long, stopped_at_limit}
use Rattle.seg_receiver.proofs.ViewLaws.{laid}
use Rattle.seg_receiver.proofs.limit.end_at_limit.Goals as goal

pub returns-in-Ok-true-clause-answer : goal.returns-in-Ok-true-clause-answer
returns-in-Ok-true-clause-answer g c = λ how aim stream last first now so_far.
    let P : Bool → Type 0 = λ b. EndsAnswer (drop ((view_of how stream).starts c.args.limit) stream) (g.H.Shelf.left c.ends.new.shelf seats.In) (Ok b) in
    let ends : P true = subst P c.in-Ok-true.field-0-test (c.in-Ok-true.ensures.answer _ so_far.left_is) in
    ended_at_limit (view_of how stream) stream (laid how.fix how.form stream) aim c.args.limit last _ _ first now so_far ends.0 ends.1

pub returns-in-Ok-false-clause-answer : goal.returns-in-Ok-false-clause-answer
returns-in-Ok-false-clause-answer g c = λ how aim stream last first now so_far.
    let P : Bool → Type 0 = λ b. EndsAnswer (drop ((view_of how stream).starts c.args.limit) stream) (g.H.Shelf.left c.ends.new.shelf seats.In) (Ok b) in
    let ends : P false = subst P c.in-Ok-false.field-0-test (c.in-Ok-false.ensures.answer _ so_far.left_is) in
    too_long (view_of how stream) stream (laid how.fix how.form stream) aim c.args.limit last _ _ first now so_far ends.0 ends.1

pub returns-in-Err-clause-answer : goal.returns-in-Err-clause-answer
returns-in-Err-clause-answer g c = λ how aim stream last first now so_far.
    stopped_at_limit (view_of how stream) stream (laid how.fix how.form stream) aim c.args.limit seats.In last _ _ first now so_far (c.in-Err.ensures.answer _ so_far.left_is)
