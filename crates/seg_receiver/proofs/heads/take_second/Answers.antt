use Rattle.edge_io.proofs.FrameAnswers.{refused_answer}
use Rattle.seg_receiver.specs.CellStream.{second_version}
use Rattle.seg_receiver.specs.ReceiveAnswers.{receive_kind, receive_command}
use Rattle.seg_receiver.proofs.FrameParts.{came-known, stopped-known}
use Rattle.seg_receiver.proofs.HeadAnswers.{no_head, head_cut, head_refused, head_taken, head_stopped}
use Rattle.seg_receiver.proofs.TakenFrames.{bad_head-kind}
use Rattle.seg_receiver.proofs.heads.take_second.Goals as goal

pub returns-in-Err-clause-answer : goal.returns-in-Err-clause-answer
returns-in-Err-clause-answer g c = λ fix aim stream limit last first now below so_far due.
    let some = c.in-Err.ensures.some in
    head_stopped fix aim stream limit c.args.number last _ _ first now c.fill.new.buf below so_far c.fill.auto.buf (stopped-known some.0 c.fill.new.buf _ _ _ so_far.left_is some.1 some.3 some.2)

pub returns-then-count-eq0-clause-answer : goal.returns-then-count-eq0-clause-answer
returns-then-count-eq0-clause-answer g c = λ fix aim stream limit last first now below so_far due.
    let h = c.in-Ok.ensures in
    no_head fix aim stream limit c.args.number c.in-Ok.count last _ _ first now c.fill.new.buf so_far c.fill.auto.buf c.if-count-eq0.true (came-known c.in-Ok.count c.fill.new.buf _ _ _ so_far.left_is h.count h.copied h.taken)

pub returns-then-count-lt-HEAD_BYTES-clause-answer : goal.returns-then-count-lt-HEAD_BYTES-clause-answer
returns-then-count-lt-HEAD_BYTES-clause-answer g c = λ fix aim stream limit last first now below so_far due.
    let h = c.in-Ok.ensures in
    head_cut fix aim stream limit c.args.number c.in-Ok.count last _ _ first now c.fill.new.buf below so_far c.fill.auto.buf c.if-count-eq0.false c.if-count-lt-HEAD_BYTES.true (came-known c.in-Ok.count c.fill.new.buf _ _ _ so_far.left_is h.count h.copied h.taken)

pub returns-in-Ok-check_head-clause-answer : goal.returns-in-Ok-check_head-clause-answer
returns-in-Ok-check_head-clause-answer g c = λ fix aim stream limit last first now below so_far due.
    let h = c.in-Ok.ensures in
    let checked = c.in-Ok-check_head.ensures in
    head_taken fix aim stream limit c.args.number c.in-Ok.count last _ _ first now c.fill.new.buf c.args.due c.in-Ok-check_head.said so_far c.fill.auto.buf c.if-count-lt-HEAD_BYTES.false
    (came-known c.in-Ok.count c.fill.new.buf _ _ _ so_far.left_is h.count h.copied h.taken) due checked.0 checked.1

pub returns-in-Err-check_head-clause-answer : goal.returns-in-Err-check_head-clause-answer
returns-in-Err-check_head-clause-answer g c = λ fix aim stream limit last first now below so_far due.
    let h = c.in-Ok.ensures in
    refused_answer receive_kind (receive_command (second_version fix stream) aim stream limit) first now _ c.in-Err-check_head.fault (bad_head-kind c.args.number _ c.in-Err-check_head.fault c.in-Err-check_head.ensures)
    (head_refused fix aim stream limit c.args.number c.in-Ok.count last _ _ first now c.fill.new.buf c.args.due c.in-Err-check_head.fault below so_far c.fill.auto.buf c.if-count-lt-HEAD_BYTES.false
    (came-known c.in-Ok.count c.fill.new.buf _ _ _ so_far.left_is h.count h.copied h.taken) due c.in-Err-check_head.ensures)
