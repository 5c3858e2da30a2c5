use Rattle.std.proofs.Common.{◌≤◌, length, arith}
use Rattle.edge_io.specs.declared.shelf.Seat.TheVariants as seats
use Rattle.coder_core.proofs.CodeProgress.{Turn, turn, nothing_came, cut_off, whole, read_failed}
use Rattle.coder_core.proofs.reading.read_frame.Goals as goal

pub returns-in-Err-clause-answer : goal.returns-in-Err-clause-answer
returns-in-Err-clause-answer g c = λ r f before now less have size so_far.
    read_failed r f c.args.held _ c.fill_behind.new.buf _ _ before now less size so_far (c.in-Err.ensures.answer _ so_far.left_is)

pub returns-then-count-eq0-clause-answer : goal.returns-then-count-eq0-clause-answer
returns-then-count-eq0-clause-answer g c = λ r f before now less have size so_far.
    let fits : c.args.held ≤ length c.fill_behind.new.buf = omega (arith, c.requires.held, c.fill_behind.auto.buf) in
    let t : Turn r f c.in-Ok.count c.fill_behind.new.buf (g.H.Shelf.left c.fill_behind.new.shelf seats.In) before now = turn r f c.args.held _ _ _ _ _ before now size fits so_far (c.in-Ok.ensures.answer _ so_far.left_is) in
    nothing_came r f _ _ _ before now have c.if-count-eq0.true t

pub returns-then-count-frame-clause-answer : goal.returns-then-count-frame-clause-answer
returns-then-count-frame-clause-answer g c = λ r f before now less have size so_far.
    let fits : c.args.held ≤ length c.fill_behind.new.buf = omega (arith, c.requires.held, c.fill_behind.auto.buf) in
    let t : Turn r f c.in-Ok.count c.fill_behind.new.buf (g.H.Shelf.left c.fill_behind.new.shelf seats.In) before now = turn r f c.args.held _ _ _ _ _ before now size fits so_far (c.in-Ok.ensures.answer _ so_far.left_is) in
    cut_off r f c.in-Ok.count _ _ before now less (omega (arith, c.if-count-eq0.false)) (omega (arith, c.if-count-frame.true, size)) t

pub returns-clause-answer : goal.returns-clause-answer
returns-clause-answer g c = λ r f before now less have size so_far.
    let fits : c.args.held ≤ length c.fill_behind.new.buf = omega (arith, c.requires.held, c.fill_behind.auto.buf) in
    let t : Turn r f c.in-Ok.count c.fill_behind.new.buf (g.H.Shelf.left c.fill_behind.new.shelf seats.In) before now = turn r f c.args.held _ _ _ _ _ before now size fits so_far (c.in-Ok.ensures.answer _ so_far.left_is) in
    whole r f c.in-Ok.count _ _ before now have less size (omega (arith, c.if-count-frame.false)) t
