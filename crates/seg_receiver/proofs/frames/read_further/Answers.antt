use Rattle.std.proofs.Common.{◌≡◌, ℕ, ◌+◌, ◌*◌, List, [], length, drop, ap, sym, subst, arith}
use Rattle.std.proofs.lemmas.List.{take_at}
use Rattle.edge_io.specs.declared.shelf.Seat.TheVariants as seats
use Rattle.coder_core.specs.SentCells.{frame_size}
use Rattle.seg_receiver.specs.CellStream.{view_of}
use Rattle.seg_receiver.specs.FrameReading.{ShowsFrame}
use Rattle.seg_receiver.specs.EpochReceiver.{symbols_of, StandsFor}
use Rattle.seg_receiver.specs.EpochAnswers.{HeadTaken}
use Rattle.seg_receiver.proofs.FrameParts.{front-size}
use Rattle.seg_receiver.proofs.ReceiveProgress.{stopped-behind}
use Rattle.seg_receiver.proofs.TakenFrames.{take_answer, take_cause, if_taken}
use Rattle.seg_receiver.proofs.ViewLaws.{laid}
use Rattle.seg_receiver.proofs.frames.read_further.Goals as goal

pub returns-clause-answer : goal.returns-clause-answer
returns-clause-answer g c = λ stream limit known first now below so_far head.
    let how = c.args.frame.how in
    let part = c.feed_read.new.frame in
    let size : length part ≡ frame_size c.args.frame.mode = front-size c.args.buffer.now part c.symbol_size.result (frame_size c.args.frame.mode) (ap (λ n. 204 * n) c.symbol_size.ensures.value) c.requires.size c.feed_read.auto.frame in
    take_answer (view_of how stream) stream (laid how.fix how.form stream) c.args.frame.aim limit c.args.frame.number (c.args.frame.mode, c.args.frame.guard) c.args.before.now known _ first now below so_far head
    c.in-Ok.count _ part _ c.word_read.result size (take_at part (drop (204 * c.symbol_size.result) c.args.buffer.now) (frame_size c.args.frame.mode) size) (c.in-Ok.ensures.answer _ head.left_is) (c.word_read.ensures.check stream)

pub returns-clause-state : goal.returns-clause-state
returns-clause-state g c =
    if_taken (view_of c.args.frame.how []).fix c.args.frame.mode (view_of c.args.frame.how []).head c.args.frame.aim c.args.frame.number c.args.before.now c.feed_read.new.frame c.in-Ok.count c.word_read.result
    ((stream : List ℕ) → HeadTaken (view_of c.args.frame.how stream) stream c.args.frame.number (c.args.frame.mode, c.args.frame.guard) (g.H.Shelf.left c.args.shelf.now seats.In)
    → (start h : ℕ) → start + h ≡ c.args.frame.number → StandsFor c.args.receiver.now (view_of c.args.frame.how stream).cell start h → StandsFor c.feed_read.new.receiver (view_of c.args.frame.how stream).cell start h)
    (λ whole stream head start h is stands.
    let v = view_of c.args.frame.how stream in
    let most = c.in-Ok.ensures.most in
    let full : c.in-Ok.count ≡ length c.feed_read.new.frame = omega (arith, whole, most) in
    let rest = drop (v.starts c.args.frame.number + v.head) stream in
    let shows = subst (λ m. ShowsFrame m v.cell c.args.frame.number rest) head.mode ((laid c.args.frame.how.fix c.args.frame.how.form stream).shows c.args.frame.number) in
    c.in-Ok.ensures.state full rest head.left_is v.cell start h stands (subst (λ f. ShowsFrame c.args.frame.mode v.cell f rest) (sym is) shows))
    (c.word_read.ensures.check [])

pub returns-clause-symbols : goal.returns-clause-symbols
returns-clause-symbols g c =
    if_taken (view_of c.args.frame.how []).fix c.args.frame.mode (view_of c.args.frame.how []).head c.args.frame.aim c.args.frame.number c.args.before.now c.feed_read.new.frame c.in-Ok.count c.word_read.result (symbols_of c.feed_read.new.receiver ≡ 204)
    (λ whole. (let most = c.in-Ok.ensures.most in c.in-Ok.ensures.symbols (let full : c.in-Ok.count ≡ length c.feed_read.new.frame = omega (arith, whole, most) in full)))
    (c.word_read.ensures.check [])

pub returns-clause-cause : goal.returns-clause-cause
returns-clause-cause g c =
    take_cause (view_of c.args.frame.how []).fix c.args.frame.mode (view_of c.args.frame.how []).head c.args.frame.aim c.args.frame.number c.in-Ok.count c.args.before.now c.feed_read.new.frame _ _ c.word_read.result (c.word_read.ensures.check []) c.in-Ok.ensures.cause.kept

pub returns-in-Err-clause-answer : goal.returns-in-Err-clause-answer
returns-in-Err-clause-answer g c = λ stream limit known first now below so_far head.
    let how = c.args.frame.how in
    let part = c.feed_read.new.frame in
    let size : length part ≡ frame_size c.args.frame.mode = front-size c.args.buffer.now part c.symbol_size.result (frame_size c.args.frame.mode) (ap (λ n. 204 * n) c.symbol_size.ensures.value) c.requires.size c.feed_read.auto.frame in
    stopped-behind (view_of how stream) stream (laid how.fix how.form stream) c.args.frame.aim limit c.args.frame.number (c.args.frame.mode, c.args.frame.guard) c.args.before.now known _ first now below so_far head seats.In part _ size
    (c.in-Err.ensures.answer _ head.left_is)
