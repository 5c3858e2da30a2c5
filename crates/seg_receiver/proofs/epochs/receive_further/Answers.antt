use Rattle.std.proofs.Common.{◌≡◌, ◌+◌, ◌-◌, ◌<◌, ℕ, Bool, false, List, refl, ap, sym, ◌∙◌, subst, arith, Ok, Some, IfSome}
use Rattle.std.specs.Prelude.{◌==◌}
use Rattle.std.specs.declared.option.Option.{Option}
use Rattle.std.proofs.lemmas.Bool.{ne_eqb}
use Rattle.isdbt_base.specs.declared.kinds.Mode.{Mode}
use Rattle.isdbt_base.specs.declared.kinds.Guard.{Guard}
use Rattle.edge_io.specs.declared.shelf.Seat.TheVariants as seats
use Rattle.tmcc_word.specs.Fields.{TmccFields}
use Rattle.seg_receiver.specs.Aims.{aim_of}
use Rattle.seg_receiver.specs.CellStream.{view_of}
use Rattle.seg_receiver.specs.EpochReceiver.{IsReceiverOf, StandsFor}
use Rattle.seg_receiver.specs.ReceiveAnswers.{given_frame}
use Rattle.seg_receiver.specs.EpochAnswers.{TakeAnswer, InEpoch}
use Rattle.seg_receiver.proofs.BufferRoom.{room-fits}
use Rattle.seg_receiver.proofs.EpochProgress.{begun-in, ends-epoch, ends-at_limit, is-given, next_in, next_setting, wrote_all, wrote_some}
use Rattle.seg_receiver.proofs.ReceiveProgress.{write-failed}
use Rattle.seg_receiver.proofs.epochs.receive_further.Goals as goal

pub loop-number-init : goal.loop-number-init
loop-number-init g c = record {
  receiver = (c.args.word.now.0.now, c.requires.receiver);
  room_for = c.requires.room;
  symbols = c.requires.fresh;
  is_open = c.requires.is_open;
  still_open = refl;
  shelf_kept = refl;
  sink_kept = refl;
  sink_room = refl;
  told = λ stream start h first place some stands so_far. record {
    kind = c.requires.receiver;
    stands = subst (StandsFor c.args.receiver.now (view_of c.args.epoch.how stream).cell start) (let e : h ≡ c.args.next - start = omega (arith, place) in e) stands;
    from = omega (arith, place, some);
    so_far = so_far;
  };
}

pub returns-then-last-eq0-clause-answer : goal.returns-then-last-eq0-clause-answer
returns-then-last-eq0-clause-answer g c = λ stream start h first place some stands so_far.
    let going = c.loop-number.invariant.told stream start h first place some stands so_far in
    ends-epoch (view_of c.args.epoch.how stream) (aim_of c.args.epoch.partial) stream c.args.epoch.limit start c.loop-number.number (c.args.epoch.mode, c.args.epoch.guard) c.loop-number.last _ first _ going.so_far (sym (ap (λ (p : TmccFields × Bool). p.0.countdown) c.last.view_is) ∙ c.if-last-eq0.true)

pub returns-clause-answer : goal.returns-clause-answer
returns-clause-answer g c = λ stream start h first place some stands so_far.
    let going = c.loop-number.invariant.told stream start h first place some stands so_far in
    let end : c.loop-number.number ≡ c.args.epoch.limit = omega arith in
    ends-at_limit (view_of c.args.epoch.how stream) (aim_of c.args.epoch.partial) stream c.args.epoch.limit start c.loop-number.number (c.args.epoch.mode, c.args.epoch.guard) c.loop-number.last _ first _ end going.so_far

pub returns-in-Ok-None-clause-answer : goal.returns-in-Ok-None-clause-answer
returns-in-Ok-None-clause-answer g c = λ stream start h first place some stands so_far.
    let going = c.loop-number.invariant.told stream start h first place some stands so_far in
    let P : Option (TmccFields × Bool) → Type 0 = λ o. TakeAnswer (view_of c.args.epoch.how stream) (aim_of c.args.epoch.partial) stream c.args.epoch.limit c.loop-number.number (c.args.epoch.mode, c.args.epoch.guard) (Some c.loop-number.last) c.next_frame.new.buffers.frame.items first (g.K.Sink.written c.loop-number.sink) (g.H.Shelf.left c.next_frame.new.shelf seats.In) (Ok o) in
    let other = λ (e : c.loop-number.last.0.countdown ≡ 0). c.if-last-eq0.false (ap (λ (p : TmccFields × Bool). p.0.countdown) c.last.view_is ∙ e) in
    subst P c.in-Ok-None.field-0-is (c.in-Ok-None.ensures.answer stream start first (g.K.Sink.written c.loop-number.sink) going.so_far other)

pub returns-in-Err-clause-answer : goal.returns-in-Err-clause-answer
returns-in-Err-clause-answer g c = λ stream start h first place some stands so_far.
    let going = c.loop-number.invariant.told stream start h first place some stands so_far in
    let other = λ (e : c.loop-number.last.0.countdown ≡ 0). c.if-last-eq0.false (ap (λ (p : TmccFields × Bool). p.0.countdown) c.last.view_is ∙ e) in
    c.in-Err.ensures.answer stream start first (g.K.Sink.written c.loop-number.sink) going.so_far other

not-first : (start f : ℕ) → start < f → (start == f) ≡ false
not-first start f less = ne_eqb start f (λ e. omega (arith, less, e))

pub returns-in-Err-write_received-clause-answer : goal.returns-in-Err-write_received-clause-answer
returns-in-Err-write_received-clause-answer g c = λ stream start h first place some stands so_far.
    let v = view_of c.args.epoch.how stream in
    let said : Mode × Guard = (c.args.epoch.mode, c.args.epoch.guard) in
    let number = c.loop-number.number in
    let word = c.in-Ok-Some.word in
    let frame = c.next_frame.new.buffers.frame.items in
    let going = c.loop-number.invariant.told stream start h first place some stands so_far in
    let from = going.from in
    let other = λ (e : c.loop-number.last.0.countdown ≡ 0). c.if-last-eq0.false (ap (λ (p : TmccFields × Bool). p.0.countdown) c.last.view_is ∙ e) in
    let here : start + (number - start) ≡ number = omega (arith, from) in
    let P : Option (TmccFields × Bool) → Type 0 = λ o. TakeAnswer v (aim_of c.args.epoch.partial) stream c.args.epoch.limit number said (Some c.loop-number.last) frame first (g.K.Sink.written c.loop-number.sink) (g.H.Shelf.left c.next_frame.new.shelf seats.In) (Ok o) in
    let taken : P (Some word) = subst P c.in-Ok-Some.field-0-is (c.in-Ok-Some.ensures.answer stream start first (g.K.Sink.written c.loop-number.sink) going.so_far other) in
    let Q : Option (TmccFields × Bool) → Type 0 = λ o. IfSome o (λ word. (stream : List ℕ) (start h : ℕ) (first now : Option (List ℕ)) → InEpoch (view_of c.args.epoch.how stream) (aim_of c.args.epoch.partial) stream c.args.epoch.limit start number said c.loop-number.last (g.H.Shelf.left c.loop-number.shelf seats.In) first now
    → (c.loop-number.last.0.countdown ≡ 0 → ⊥) → start + h ≡ number → StandsFor c.loop-number.receiver (view_of c.args.epoch.how stream).cell start h → StandsFor c.next_frame.new.receiver (view_of c.args.epoch.how stream).cell start h) in
    let state : Q (Some word) = subst Q c.in-Ok-Some.field-0-is c.in-Ok-Some.ensures.state in
    let fed = state stream start (number - start) first (g.K.Sink.written c.loop-number.sink) going.so_far other here going.stands in
    let setting = next_setting v c.args.epoch.partial stream c.args.epoch.limit start number said c.loop-number.last word frame _ _ first _ going.so_far other taken in
    let begun = begun-in v (aim_of c.args.epoch.partial) stream c.args.epoch.limit start number said c.loop-number.last _ first _ going.so_far other in
    let kind = subst (λ u. IsReceiverOf c.args.epoch.partial said.0 said.1 u c.next_frame.new.receiver) setting (c.in-Ok-Some.ensures.kept c.args.epoch.partial said.0 said.1 c.loop-number.last.0.now going.kind) in
    let is = is-given v c.args.epoch.partial number start (number - start) said word false taken.mode taken.guard taken.word_is begun here (not-first start number from) in
    let failed = c.in-Err-write_received.ensures.some c.args.epoch.partial said.0 said.1 word.0.now v.cell start (number - start) kind fed in
    let part = wrote_some _ (given_frame v (aim_of c.args.epoch.partial) number) failed.0 (g.K.Sink.written c.loop-number.sink) (g.K.Sink.written c.write_received.new.sink) is failed.1 failed.2 in
    write-failed v (aim_of c.args.epoch.partial) stream c.args.epoch.limit number failed.0 said (Some c.loop-number.last) word frame _ _ first (g.K.Sink.written c.loop-number.sink) _ going.so_far.so_far taken part.0 part.1

pub loop-number-preserved : goal.loop-number-preserved
loop-number-preserved g c = record {
  room_for = record { frame = c.in-Ok-Some.ensures.room_kept.frame; cells = c.in-Ok-Some.ensures.room_kept.cells; packets = c.in-Ok-Some.ensures.room_kept.packets };
  receiver =
      (let s = c.loop-number.invariant.receiver.0 in
      (s, c.write_received.ensures.kept c.args.epoch.partial c.args.epoch.mode c.args.epoch.guard s (c.in-Ok-Some.ensures.kept c.args.epoch.partial c.args.epoch.mode c.args.epoch.guard s c.loop-number.invariant.receiver.1)));
  symbols = c.write_received.ensures.symbols;
  is_open = ap (λ f. f seats.In) c.in-Ok-Some.ensures.still_open ∙ c.loop-number.invariant.is_open;
  still_open = c.in-Ok-Some.ensures.still_open ∙ c.loop-number.invariant.still_open;
  shelf_kept = c.in-Ok-Some.ensures.cause ∙ c.loop-number.invariant.shelf_kept;
  sink_kept = c.in-Ok.ensures.cause.kept ∙ c.loop-number.invariant.sink_kept;
  sink_room = c.in-Ok.ensures.sink_room ∙ c.loop-number.invariant.sink_room;
  told = λ stream start h first place some stands so_far. (
      let v = view_of c.args.epoch.how stream in
      let said : Mode × Guard = (c.args.epoch.mode, c.args.epoch.guard) in
      let number = c.loop-number.number in
      let word = c.in-Ok-Some.word in
      let frame = c.next_frame.new.buffers.frame.items in
      let going = c.loop-number.invariant.told stream start h first place some stands so_far in
      let from = going.from in
      let other = λ (e : c.loop-number.last.0.countdown ≡ 0). c.if-last-eq0.false (ap (λ (p : TmccFields × Bool). p.0.countdown) c.last.view_is ∙ e) in
      let here : start + (number - start) ≡ number = omega (arith, from) in
      let P : Option (TmccFields × Bool) → Type 0 = λ o. TakeAnswer v (aim_of c.args.epoch.partial) stream c.args.epoch.limit number said (Some c.loop-number.last) frame first (g.K.Sink.written c.loop-number.sink) (g.H.Shelf.left c.next_frame.new.shelf seats.In) (Ok o) in
      let taken : P (Some word) = subst P c.in-Ok-Some.field-0-is (c.in-Ok-Some.ensures.answer stream start first (g.K.Sink.written c.loop-number.sink) going.so_far other) in
      let Q : Option (TmccFields × Bool) → Type 0 = λ o. IfSome o (λ word. (stream : List ℕ) (start h : ℕ) (first now : Option (List ℕ)) → InEpoch (view_of c.args.epoch.how stream) (aim_of c.args.epoch.partial) stream c.args.epoch.limit start number said c.loop-number.last (g.H.Shelf.left c.loop-number.shelf seats.In) first now
      → (c.loop-number.last.0.countdown ≡ 0 → ⊥) → start + h ≡ number → StandsFor c.loop-number.receiver (view_of c.args.epoch.how stream).cell start h → StandsFor c.next_frame.new.receiver (view_of c.args.epoch.how stream).cell start h) in
      let state : Q (Some word) = subst Q c.in-Ok-Some.field-0-is c.in-Ok-Some.ensures.state in
      let fed = state stream start (number - start) first (g.K.Sink.written c.loop-number.sink) going.so_far other here going.stands in
      let setting = next_setting v c.args.epoch.partial stream c.args.epoch.limit start number said c.loop-number.last word frame _ _ first _ going.so_far other taken in
      let begun = begun-in v (aim_of c.args.epoch.partial) stream c.args.epoch.limit start number said c.loop-number.last _ first _ going.so_far other in
      let kind = subst (λ u. IsReceiverOf c.args.epoch.partial said.0 said.1 u c.next_frame.new.receiver) setting (c.in-Ok-Some.ensures.kept c.args.epoch.partial said.0 said.1 c.loop-number.last.0.now going.kind) in
      let is = is-given v c.args.epoch.partial number start (number - start) said word false taken.mode taken.guard taken.word_is begun here (not-first start number from) in
      let wrote = wrote_all _ (given_frame v (aim_of c.args.epoch.partial) number) (g.K.Sink.written c.loop-number.sink) (g.K.Sink.written c.write_received.new.sink) is (c.in-Ok.ensures.ok c.args.epoch.partial said.0 said.1 word.0.now v.cell start (number - start) kind fed) in
      record {
        kind = c.write_received.ensures.kept c.args.epoch.partial said.0 said.1 word.0.now kind;
        stands = subst (StandsFor c.write_received.new.receiver v.cell start) (let e : number - start + 1 ≡ number + 1 - start = omega (arith, from) in e) (c.write_received.ensures.state v.cell start (number - start) fed);
        from = omega (arith, from);
        so_far = next_in v (aim_of c.args.epoch.partial) stream c.args.epoch.limit start number said c.loop-number.last word frame _ _ first (g.K.Sink.written c.loop-number.sink) _ going.so_far other taken wrote;
      });
}

pub write_received-requires-clause-room : goal.write_received-requires-clause-room
write_received-requires-clause-room g c =
    let e = c.args.epoch in
    let s = c.loop-number.invariant.receiver.0 in
    let fits = room-fits e.how.form e.partial e.mode e.guard s c.next_frame.new.receiver c.next_frame.new.buffers (c.in-Ok-Some.ensures.kept e.partial e.mode e.guard s c.loop-number.invariant.receiver.1) c.requires.can_have c.in-Ok-Some.ensures.room_kept in
    let len = c.deref_mut.ensures.len in
    omega (arith, fits, len)
