use Rattle.std.proofs.Common.{◌≡◌, ◌∙◌, ap, ℕ, List, Bool, true, Ok, Err, Some, None, IfSome, length, drop, vec_len, sym, subst}
use Rattle.std.specs.declared.option.Option.{Option}
use Rattle.std.proofs.lemmas.List.{take_at}
use Rattle.isdbt_base.specs.declared.kinds.Mode.{Mode}
use Rattle.isdbt_base.specs.declared.kinds.Guard.{Guard}
use Rattle.edge_io.specs.declared.shelf.Seat.TheVariants as seats
use Rattle.edge_io.specs.FrameAnswers.{Finished, LoneAnswer}
use Rattle.tmcc_word.specs.Fields.{TmccFields}
use Rattle.seg_receiver.specs.declared.aim.Aim.{Aim}
use Rattle.seg_receiver.specs.declared.aim.Aim.TheVariants as aims
use Rattle.seg_receiver.specs.Aims.{aim_of}
use Rattle.seg_receiver.specs.CellStream.{view_of}
use Rattle.seg_receiver.specs.ReceiveAnswers.{receive_kind, receive_command}
use Rattle.seg_receiver.specs.EpochAnswers.{Progress, HeadAnswer, Taken, TakeAnswer}
use Rattle.seg_receiver.proofs.EpochProgress.{first_due}
use Rattle.seg_receiver.proofs.epochs.receive_epoch.Goals as goal

pub returns-in-Ok-None-clause-answer : goal.returns-in-Ok-None-clause-answer
returns-in-Ok-None-clause-answer g c = λ stream first at.
    let v = view_of c.args.reception.how stream in
    let limit = c.args.reception.limit in
    let f = c.args.start.now.frame in
    let due = first_due v (aim_of c.args.reception.partial) stream limit f (at.begun c.requires.below) in
    let P : Option (Mode × Guard) → Type 0 = λ o. HeadAnswer v (aim_of c.args.reception.partial) stream limit f first (g.K.Sink.written c.args.sink.now) (g.H.Shelf.left c.take_head.new.shelf seats.In) (Ok o) in
    subst P c.in-Ok-None.field-0-is (c.in-Ok-None.ensures.answer (aim_of c.args.reception.partial) stream limit c.args.start.now.before first (g.K.Sink.written c.args.sink.now) c.requires.below at.so_far due)

pub returns-in-Err-clause-answer : goal.returns-in-Err-clause-answer
returns-in-Err-clause-answer g c = λ stream first at.
    let v = view_of c.args.reception.how stream in
    let limit = c.args.reception.limit in
    let due = first_due v (aim_of c.args.reception.partial) stream limit c.args.start.now.frame (at.begun c.requires.below) in
    c.in-Err.ensures.answer (aim_of c.args.reception.partial) stream limit c.args.start.now.before first (g.K.Sink.written c.args.sink.now) c.requires.below at.so_far due

pub returns-in-Ok-None-read_held-clause-answer : goal.returns-in-Ok-None-read_held-clause-answer
returns-in-Ok-None-read_held-clause-answer g c = λ stream first at.
    let v = view_of c.args.reception.how stream in
    let limit = c.args.reception.limit in
    let f = c.args.start.now.frame in
    let mid = g.K.Sink.written c.args.sink.now in
    let due = first_due v (aim_of c.args.reception.partial) stream limit f (at.begun c.requires.below) in
    let P : Option (Mode × Guard) → Type 0 = λ o. HeadAnswer v (aim_of c.args.reception.partial) stream limit f first mid (g.H.Shelf.left c.take_head.new.shelf seats.In) (Ok o) in
    let head : P (Some c.in-Ok-Some.said) = subst P c.in-Ok-Some.field-0-is (c.in-Ok-Some.ensures.answer (aim_of c.args.reception.partial) stream limit c.args.start.now.before first mid c.requires.below at.so_far due) in
    let so_far = subst (λ aim. Progress v aim stream limit f c.args.start.now.before (g.H.Shelf.left c.args.shelf.now seats.In) first mid) (sym c.aim_of.ensures) at.so_far in
    let Q : Option (TmccFields × Bool) → Type 0 = λ o. TakeAnswer v c.aim_of.result stream limit f (c.in-Ok-Some.said.0, c.in-Ok-Some.said.1) c.args.start.now.before c.read_held.new.buffer first mid (g.H.Shelf.left c.read_held.new.shelf seats.In) (Ok o) in
    let none : Q None = subst Q c.in-Ok-None-read_held.field-0-is (c.in-Ok-None-read_held.ensures.answer stream limit _ first mid c.requires.below so_far head) in
    subst (λ aim. Finished (receive_command v aim stream limit) f first mid (g.H.Shelf.left c.read_held.new.shelf seats.In)) c.aim_of.ensures none

pub returns-in-Err-read_held-clause-answer : goal.returns-in-Err-read_held-clause-answer
returns-in-Err-read_held-clause-answer g c = λ stream first at.
    let v = view_of c.args.reception.how stream in
    let limit = c.args.reception.limit in
    let f = c.args.start.now.frame in
    let mid = g.K.Sink.written c.args.sink.now in
    let due = first_due v (aim_of c.args.reception.partial) stream limit f (at.begun c.requires.below) in
    let P : Option (Mode × Guard) → Type 0 = λ o. HeadAnswer v (aim_of c.args.reception.partial) stream limit f first mid (g.H.Shelf.left c.take_head.new.shelf seats.In) (Ok o) in
    let head : P (Some c.in-Ok-Some.said) = subst P c.in-Ok-Some.field-0-is (c.in-Ok-Some.ensures.answer (aim_of c.args.reception.partial) stream limit c.args.start.now.before first mid c.requires.below at.so_far due) in
    let so_far = subst (λ aim. Progress v aim stream limit f c.args.start.now.before (g.H.Shelf.left c.args.shelf.now seats.In) first mid) (sym c.aim_of.ensures) at.so_far in
    subst (λ aim. LoneAnswer receive_kind (receive_command v aim stream limit) first mid (g.H.Shelf.left c.read_held.new.shelf seats.In) (Err c.in-Err-read_held.fault)) c.aim_of.ensures
    (c.in-Err-read_held.ensures.answer stream limit _ first mid c.requires.below so_far head)

pub returns-clause-answer : goal.returns-clause-answer
returns-clause-answer g c = λ stream first at.
    let v = view_of c.args.reception.how stream in
    let limit = c.args.reception.limit in
    let f = c.args.start.now.frame in
    let mid = g.K.Sink.written c.args.sink.now in
    let said : Mode × Guard = (c.in-Ok-Some.said.0, c.in-Ok-Some.said.1) in
    let due = first_due v (aim_of c.args.reception.partial) stream limit f (at.begun c.requires.below) in
    let P : Option (Mode × Guard) → Type 0 = λ o. HeadAnswer v (aim_of c.args.reception.partial) stream limit f first mid (g.H.Shelf.left c.take_head.new.shelf seats.In) (Ok o) in
    let head : P (Some c.in-Ok-Some.said) = subst P c.in-Ok-Some.field-0-is (c.in-Ok-Some.ensures.answer (aim_of c.args.reception.partial) stream limit c.args.start.now.before first mid c.requires.below at.so_far due) in
    let so_far = subst (λ aim. Progress v aim stream limit f c.args.start.now.before (g.H.Shelf.left c.args.shelf.now seats.In) first mid) (sym c.aim_of.ensures) at.so_far in
    let Q : Option (TmccFields × Bool) → Type 0 = λ o. TakeAnswer v c.aim_of.result stream limit f said c.args.start.now.before c.read_held.new.buffer first mid (g.H.Shelf.left c.read_held.new.shelf seats.In) (Ok o) in
    let taken : Q (Some c.in-Ok-Some-read_held.word) = subst Q c.in-Ok-Some-read_held.field-0-is (c.in-Ok-Some-read_held.ensures.answer stream limit _ first mid c.requires.below so_far head) in
    let frame = c.read_held.new.buffer in
    let size : length frame ≡ vec_len c.args.buffers.now.frame = c.read_held.auto.buffer ∙ c.deref_mut.ensures.len in
    let held = take_at frame (drop (length frame) c.args.buffers.now.frame.items) (vec_len c.args.buffers.now.frame) size in
    let R : Aim → List ℕ → Type 0 = λ aim xs. Taken v aim stream limit f said c.args.start.now.before c.in-Ok-Some-read_held.word xs (g.H.Shelf.left c.read_held.new.shelf seats.In) in
    c.receive_held.ensures.answer stream c.args.start.now.before (g.H.Shelf.left c.args.shelf.now seats.In) first at
    (subst (R (aim_of c.args.reception.partial)) (sym held) (subst (λ aim. R aim frame) c.aim_of.ensures taken))

-- a reception whose aim is partial asks for the flag
pub receive_held-requires-clause-flag : goal.receive_held-requires-clause-flag
receive_held-requires-clause-flag g c = λ asked.
    let P : Option (TmccFields × Bool) → Type 0 = λ o. IfSome o (λ word. c.aim_of.result ≡ aims.Partial → word.0.now.partial ≡ true) in
    let flag : P (Some c.in-Ok-Some-read_held.word) = subst P c.in-Ok-Some-read_held.field-0-is c.in-Ok-Some-read_held.ensures.flag in
    flag (c.aim_of.ensures ∙ ap aim_of asked)
