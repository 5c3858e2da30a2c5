use Rattle.std.proofs.Common.{sym, subst}
use Rattle.edge_io.specs.declared.shelf.Seat.TheVariants as seats
use Rattle.isdbt_base.specs.declared.stream.Form.{Form}
use Rattle.seg_receiver.specs.CellStream.{version_of}
use Rattle.seg_receiver.specs.EpochAnswers.{Progress, HeadAnswer, DueIn}
use Rattle.seg_receiver.proofs.heads.take_head.Goals as goal

pub returns-in-V2-clause-answer : goal.returns-in-V2-clause-answer
returns-in-V2-clause-answer g c = λ aim stream limit last first now below so_far due.
    let P : Form → Type 0 = λ form. Progress (version_of c.args.how.fix form stream) aim stream limit c.args.number last (g.H.Shelf.left c.args.shelf.now seats.In) first now → DueIn (version_of c.args.how.fix form stream) c.args.number c.args.due
    → HeadAnswer (version_of c.args.how.fix form stream) aim stream limit c.args.number first now (g.H.Shelf.left c.take_second.new.shelf seats.In) c.take_second.result in
    subst P (sym c.in-V2.is) (λ so_far due. c.take_second.ensures.answer c.args.how.fix aim stream limit last first now below so_far due) so_far due
