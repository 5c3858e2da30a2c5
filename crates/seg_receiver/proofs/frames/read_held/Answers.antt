use Rattle.std.proofs.Common.{◌≡◌, ◌*◌, [], length, drop, ap}
use Rattle.std.proofs.lemmas.List.{take_at}
use Rattle.edge_io.specs.declared.shelf.Seat.TheVariants as seats
use Rattle.coder_core.specs.SentCells.{frame_size}
use Rattle.seg_receiver.specs.CellStream.{view_of}
use Rattle.seg_receiver.proofs.FrameParts.{came-known, stopped-known, front-size}
use Rattle.seg_receiver.proofs.ReceiveProgress.{stopped-behind}
use Rattle.seg_receiver.proofs.TakenFrames.{take_answer, take_cause}
use Rattle.seg_receiver.proofs.ViewLaws.{laid}
use Rattle.seg_receiver.proofs.frames.read_held.Goals as goal

pub returns-clause-answer : goal.returns-clause-answer
returns-clause-answer g c = λ stream limit known first now below so_far head.
    let how = c.args.frame.how in
    let part = c.fill.new.buf in
    let size : length part ≡ frame_size c.args.frame.mode = front-size c.args.buffer.now part c.symbol_size.result (frame_size c.args.frame.mode) (ap (λ n. 204 * n) c.symbol_size.ensures.value) c.requires.size c.fill.auto.buf in
    let h = c.in-Ok.ensures in
    let came = came-known c.in-Ok.count part _ _ _ head.left_is h.count h.copied h.taken in
    take_answer (view_of how stream) stream (laid how.fix how.form stream) c.args.frame.aim limit c.args.frame.number (c.args.frame.mode, c.args.frame.guard) c.args.before.now known _ first now below so_far head
    c.in-Ok.count _ part _ c.word_read.result size (take_at part (drop (204 * c.symbol_size.result) c.args.buffer.now) (frame_size c.args.frame.mode) size) came (c.word_read.ensures.check stream)

pub returns-clause-cause : goal.returns-clause-cause
returns-clause-cause g c =
    take_cause (view_of c.args.frame.how []).fix c.args.frame.mode (view_of c.args.frame.how []).head c.args.frame.aim c.args.frame.number c.in-Ok.count c.args.before.now c.fill.new.buf _ _ c.word_read.result (c.word_read.ensures.check []) c.in-Ok.ensures.cause.kept

pub returns-in-Err-clause-answer : goal.returns-in-Err-clause-answer
returns-in-Err-clause-answer g c = λ stream limit known first now below so_far head.
    let how = c.args.frame.how in
    let part = c.fill.new.buf in
    let size : length part ≡ frame_size c.args.frame.mode = front-size c.args.buffer.now part c.symbol_size.result (frame_size c.args.frame.mode) (ap (λ n. 204 * n) c.symbol_size.ensures.value) c.requires.size c.fill.auto.buf in
    let some = c.in-Err.ensures.some in
    let stop = stopped-known some.0 part _ _ _ head.left_is some.1 some.3 some.2 in
    stopped-behind (view_of how stream) stream (laid how.fix how.form stream) c.args.frame.aim limit c.args.frame.number (c.args.frame.mode, c.args.frame.guard) c.args.before.now known _ first now below so_far head seats.In part _ size stop
