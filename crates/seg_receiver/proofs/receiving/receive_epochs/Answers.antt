use Rattle.std.proofs.Common.{◌≡◌, refl, ap, ◌∙◌, subst, arith, Ok}
use Rattle.edge_io.specs.declared.shelf.Seat.TheVariants as seats
use Rattle.seg_receiver.specs.declared.epochs.EpochEnd.{EpochEnd}
use Rattle.seg_receiver.specs.declared.epochs.EpochEnd.TheVariants.{Next}
use Rattle.seg_receiver.specs.Aims.{aim_of}
use Rattle.seg_receiver.specs.CellStream.{view_of}
use Rattle.seg_receiver.specs.EpochAnswers.{EpochAnswer, EndsPast}
use Rattle.seg_receiver.proofs.EpochProgress.{at_first, progress-at_limit}
use Rattle.seg_receiver.proofs.ViewLaws.{laid}
use Rattle.seg_receiver.proofs.receiving.receive_epochs.Goals as goal

pub loop-start-init : goal.loop-start-init
loop-start-init g c = record {
  most = omega arith;
  room_kept = c.requires.room_for;
  is_open = c.requires.is_open;
  still_open = refl;
  shelf_kept = refl;
  sink_kept = refl;
  sink_room = refl;
  told = λ stream told. at_first (view_of c.args.reception.how stream) stream (aim_of c.args.reception.partial) c.args.reception.limit _ _ (laid c.args.reception.how.fix c.args.reception.how.form stream) told;
}

pub returns-in-Ok-Input-clause-answer : goal.returns-in-Ok-Input-clause-answer
returns-in-Ok-Input-clause-answer g c = λ stream told.
    let P : EpochEnd → Type 0 = λ e. EpochAnswer (view_of c.args.reception.how stream) (aim_of c.args.reception.partial) stream c.args.reception.limit (g.K.Sink.written c.args.sink.now) (g.K.Sink.written c.receive_epoch-end.new.sink) (g.H.Shelf.left c.receive_epoch-end.new.shelf seats.In) (Ok e) in
    subst P c.in-Ok-Input.field-0-is (c.in-Ok-Input.ensures.answer stream (g.K.Sink.written c.args.sink.now) (c.loop-start.invariant.told stream told))

pub loop-start-preserved : goal.loop-start-preserved
loop-start-preserved g c =
    let P : EpochEnd → Type 0 = λ e. EndsPast c.loop-start.start.frame c.args.reception.limit (Ok e) in
    let past : P (Next c.in-Ok-Next.next) = subst P c.in-Ok-Next.field-0-is c.in-Ok-Next.ensures.past in
    record {
      most = past.1;
      room_kept = c.in-Ok-Next.ensures.kept;
      is_open = ap (λ f. f seats.In) c.in-Ok-Next.ensures.still_open ∙ c.loop-start.invariant.is_open;
      still_open = c.in-Ok-Next.ensures.still_open ∙ c.loop-start.invariant.still_open;
      shelf_kept = c.in-Ok-Next.ensures.cause.0 ∙ c.loop-start.invariant.shelf_kept;
      sink_kept = c.in-Ok-Next.ensures.cause.1 ∙ c.loop-start.invariant.sink_kept;
      sink_room = c.in-Ok-Next.ensures.sink_room ∙ c.loop-start.invariant.sink_room;
      told = λ stream told. (
          let P : EpochEnd → Type 0 = λ e. EpochAnswer (view_of c.args.reception.how stream) (aim_of c.args.reception.partial) stream c.args.reception.limit (g.K.Sink.written c.args.sink.now) (g.K.Sink.written c.receive_epoch-end.new.sink) (g.H.Shelf.left c.receive_epoch-end.new.shelf seats.In) (Ok e) in
          subst P c.in-Ok-Next.field-0-is (c.in-Ok-Next.ensures.answer stream (g.K.Sink.written c.args.sink.now) (c.loop-start.invariant.told stream told)));
    }

pub loop-start-smaller : goal.loop-start-smaller
loop-start-smaller g c =
    let P : EpochEnd → Type 0 = λ e. EndsPast c.loop-start.start.frame c.args.reception.limit (Ok e) in
    let past : P (Next c.in-Ok-Next.next) = subst P c.in-Ok-Next.field-0-is c.in-Ok-Next.ensures.past in
    let less = past.0 in
    let most = past.1 in
    omega (arith, less, most)

pub returns-clause-answer : goal.returns-clause-answer
returns-clause-answer g c = λ stream told.
    let how = c.args.reception.how in
    let aim = aim_of c.args.reception.partial in
    let end : c.loop-start.start.frame ≡ c.args.reception.limit = (let most = c.loop-start.invariant.most in omega (arith, most)) in
    c.end_at_limit.ensures.answer how aim stream _ _ _ (progress-at_limit (view_of how stream) aim stream c.args.reception.limit c.loop-start.start.frame c.loop-start.start.before _ _ _ end (c.loop-start.invariant.told stream told))
