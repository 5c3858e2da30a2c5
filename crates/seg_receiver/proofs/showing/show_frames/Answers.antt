use Rattle.std.proofs.Common.{◌≡◌, ◌+◌, Bool, Ok, Some, refl, ap, sym, ◌∙◌, subst, arith}
use Rattle.std.specs.declared.option.Option.{Option}
use Rattle.isdbt_base.specs.declared.kinds.Mode.{Mode}
use Rattle.isdbt_base.specs.declared.kinds.Guard.{Guard}
use Rattle.edge_io.specs.declared.shelf.Seat.TheVariants as seats
use Rattle.tmcc_word.specs.Fields.{TmccFields}
use Rattle.seg_receiver.specs.declared.aim.Aim.TheVariants.{Lines}
use Rattle.seg_receiver.specs.CellStream.{view_of}
use Rattle.seg_receiver.specs.FrameLines.{word_line}
use Rattle.seg_receiver.specs.EpochAnswers.{Progress, HeadAnswer, TakeAnswer}
use Rattle.seg_receiver.proofs.EpochProgress.{wrote_all, wrote_some}
use Rattle.seg_receiver.proofs.ListingProgress.{Listed, restored-is, listed-none, listed-more, line-failed}
use Rattle.seg_receiver.proofs.ViewLaws.{laid}
use Rattle.seg_receiver.proofs.showing.show_frames.Goals as goal

pub loop-number-init : goal.loop-number-init
loop-number-init g c = record {
  room_for = c.requires.room_for;
  is_open = c.requires.is_open;
  still_open = refl;
  shelf_kept = refl;
  sink_kept = refl;
  sink_room = refl;
  told = λ stream told. listed-none (view_of c.args.how stream) stream c.args.limit _ _ (laid c.args.how.fix c.args.how.form stream) told;
}

pub returns-in-Ok-None-clause-answer : goal.returns-in-Ok-None-clause-answer
returns-in-Ok-None-clause-answer g c = λ stream told.
    let v = view_of c.args.how stream in
    let listed = c.loop-number.invariant.told stream told in
    let first = g.K.Sink.written c.args.sink.now in
    let mid = g.K.Sink.written c.loop-number.sink in
    let P : Option (Mode × Guard) → Type 0 = λ o. HeadAnswer v Lines stream c.args.limit c.loop-number.number first mid (g.H.Shelf.left c.take_head.new.shelf seats.In) (Ok o) in
    subst P c.in-Ok-None.field-0-is (c.in-Ok-None.ensures.answer Lines stream c.args.limit c.loop-number.last first mid c.loop-number-test.true listed.so_far listed.due_is)

pub returns-in-Err-clause-answer : goal.returns-in-Err-clause-answer
returns-in-Err-clause-answer g c = λ stream told.
    let listed = c.loop-number.invariant.told stream told in
    c.in-Err.ensures.answer Lines stream c.args.limit c.loop-number.last _ _ c.loop-number-test.true listed.so_far listed.due_is

pub returns-in-Ok-None-read_held-clause-answer : goal.returns-in-Ok-None-read_held-clause-answer
returns-in-Ok-None-read_held-clause-answer g c = λ stream told.
    let v = view_of c.args.how stream in
    let f = c.loop-number.number in
    let limit = c.args.limit in
    let listed = c.loop-number.invariant.told stream told in
    let first = g.K.Sink.written c.args.sink.now in
    let mid = g.K.Sink.written c.loop-number.sink in
    let P : Option (Mode × Guard) → Type 0 = λ o. HeadAnswer v Lines stream limit f first mid (g.H.Shelf.left c.take_head.new.shelf seats.In) (Ok o) in
    let head : P (Some c.in-Ok-Some.said) = subst P c.in-Ok-Some.field-0-is (c.in-Ok-Some.ensures.answer Lines stream limit c.loop-number.last first mid c.loop-number-test.true listed.so_far listed.due_is) in
    let Q : Option (TmccFields × Bool) → Type 0 = λ o. TakeAnswer v Lines stream limit f c.in-Ok-Some.said c.loop-number.last c.read_held.new.buffer first mid (g.H.Shelf.left c.read_held.new.shelf seats.In) (Ok o) in
    subst Q c.in-Ok-None-read_held.field-0-is (c.in-Ok-None-read_held.ensures.answer stream limit _ first mid c.loop-number-test.true listed.so_far head)

pub returns-in-Err-read_held-clause-answer : goal.returns-in-Err-read_held-clause-answer
returns-in-Err-read_held-clause-answer g c = λ stream told.
    let v = view_of c.args.how stream in
    let f = c.loop-number.number in
    let limit = c.args.limit in
    let listed = c.loop-number.invariant.told stream told in
    let first = g.K.Sink.written c.args.sink.now in
    let mid = g.K.Sink.written c.loop-number.sink in
    let P : Option (Mode × Guard) → Type 0 = λ o. HeadAnswer v Lines stream limit f first mid (g.H.Shelf.left c.take_head.new.shelf seats.In) (Ok o) in
    let head : P (Some c.in-Ok-Some.said) = subst P c.in-Ok-Some.field-0-is (c.in-Ok-Some.ensures.answer Lines stream limit c.loop-number.last first mid c.loop-number-test.true listed.so_far listed.due_is) in
    c.in-Err-read_held.ensures.answer stream limit _ first mid c.loop-number-test.true listed.so_far head

pub returns-in-Err-write_whole-clause-answer : goal.returns-in-Err-write_whole-clause-answer
returns-in-Err-write_whole-clause-answer g c = λ stream told.
    let v = view_of c.args.how stream in
    let f = c.loop-number.number in
    let limit = c.args.limit in
    let said = c.in-Ok-Some.said in
    let word = c.in-Ok-Some-read_held.word in
    let listed = c.loop-number.invariant.told stream told in
    let first = g.K.Sink.written c.args.sink.now in
    let mid = g.K.Sink.written c.loop-number.sink in
    let P : Option (Mode × Guard) → Type 0 = λ o. HeadAnswer v Lines stream limit f first mid (g.H.Shelf.left c.take_head.new.shelf seats.In) (Ok o) in
    let head : P (Some said) = subst P c.in-Ok-Some.field-0-is (c.in-Ok-Some.ensures.answer Lines stream limit c.loop-number.last first mid c.loop-number-test.true listed.so_far listed.due_is) in
    let Q : Option (TmccFields × Bool) → Type 0 = λ o. TakeAnswer v Lines stream limit f said c.loop-number.last c.read_held.new.buffer first mid (g.H.Shelf.left c.read_held.new.shelf seats.In) (Ok o) in
    let taken : Q (Some word) = subst Q c.in-Ok-Some-read_held.field-0-is (c.in-Ok-Some-read_held.ensures.answer stream limit _ first mid c.loop-number-test.true listed.so_far head) in
    let changed = c.restored_in.result in
    let is : c.as_bytes.result.now ≡ word_line said.0 f changed (Ok word) = c.as_bytes.ensures.value ∙ c.deref.ensures.0 ∙ c.line_of-line.ensures in
    let failed = c.in-Err-write_whole.ensures.some in
    let part = wrote_some _ (word_line said.0 f changed (Ok word)) failed.0 mid _ is failed.1 failed.2 in
    line-failed v stream limit f failed.0 said c.loop-number.due c.loop-number.last word c.read_held.new.buffer changed _ _ first mid _ listed taken (c.restored_in.ensures ∙ restored-is c.args.how stream limit f said c.loop-number.last word c.read_held.new.buffer _ taken) part.0 part.1

pub loop-number-preserved : goal.loop-number-preserved
loop-number-preserved g c = record {
  room_for = c.read_held.auto.buffer ∙ c.loop-number.invariant.room_for;
  is_open = ap (λ f. f seats.In) (c.in-Ok-Some-read_held.ensures.still_open ∙ c.in-Ok-Some.ensures.still_open) ∙ c.loop-number.invariant.is_open;
  still_open = c.in-Ok-Some-read_held.ensures.still_open ∙ c.in-Ok-Some.ensures.still_open ∙ c.loop-number.invariant.still_open;
  shelf_kept = c.in-Ok-Some-read_held.ensures.cause ∙ c.in-Ok-Some.ensures.cause ∙ c.loop-number.invariant.shelf_kept;
  sink_kept = c.in-Ok.ensures.cause.kept ∙ c.loop-number.invariant.sink_kept;
  sink_room = c.in-Ok.ensures.room ∙ c.loop-number.invariant.sink_room;
  told = λ stream told. (
      let v = view_of c.args.how stream in
      let f = c.loop-number.number in
      let limit = c.args.limit in
      let said = c.in-Ok-Some.said in
      let word = c.in-Ok-Some-read_held.word in
      let listed = c.loop-number.invariant.told stream told in
      let first = g.K.Sink.written c.args.sink.now in
      let mid = g.K.Sink.written c.loop-number.sink in
      let after = g.K.Sink.written c.write_whole.new.sink in
      let left = g.H.Shelf.left c.read_held.new.shelf seats.In in
      let P : Option (Mode × Guard) → Type 0 = λ o. HeadAnswer v Lines stream limit f first mid (g.H.Shelf.left c.take_head.new.shelf seats.In) (Ok o) in
      let head : P (Some said) = subst P c.in-Ok-Some.field-0-is (c.in-Ok-Some.ensures.answer Lines stream limit c.loop-number.last first mid c.loop-number-test.true listed.so_far listed.due_is) in
      let Q : Option (TmccFields × Bool) → Type 0 = λ o. TakeAnswer v Lines stream limit f said c.loop-number.last c.read_held.new.buffer first mid left (Ok o) in
      let taken : Q (Some word) = subst Q c.in-Ok-Some-read_held.field-0-is (c.in-Ok-Some-read_held.ensures.answer stream limit _ first mid c.loop-number-test.true listed.so_far head) in
      let changed = c.restored_in.result in
      let is : c.as_bytes.result.now ≡ word_line said.0 f changed (Ok word) = c.as_bytes.ensures.value ∙ c.deref.ensures.0 ∙ c.line_of-line.ensures in
      let wrote = wrote_all _ (word_line said.0 f changed (Ok word)) mid after is c.in-Ok.ensures.ok in
      subst (λ due. Listed v stream limit (f + 1) due (Some word) left first after) (sym c.due_behind-due.ensures)
      (listed-more v stream limit f said c.loop-number.due c.loop-number.last word c.read_held.new.buffer changed _ left first mid after listed taken (c.restored_in.ensures ∙ restored-is c.args.how stream limit f said c.loop-number.last word c.read_held.new.buffer _ taken) wrote));
}

pub returns-clause-answer : goal.returns-clause-answer
returns-clause-answer g c = λ stream told.
    let v = view_of c.args.how stream in
    let listed = c.loop-number.invariant.told stream told in
    let first = g.K.Sink.written c.args.sink.now in
    let now = g.K.Sink.written c.loop-number.sink in
    let end : c.loop-number.number ≡ c.args.limit = omega arith in
    let so_far = subst (λ n. Progress v Lines stream c.args.limit n c.loop-number.last (g.H.Shelf.left c.loop-number.shelf seats.In) first now) end listed.so_far in
    c.end_at_limit.ensures.answer c.args.how Lines stream c.loop-number.last first now so_far
