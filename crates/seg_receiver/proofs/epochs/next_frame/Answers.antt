use Rattle.std.proofs.Common.{◌≡◌, ◌+◌, arith, ℕ, List, length, drop, vec_len, sym, subst, ◌∙◌, Ok, Err, Some, None, IfOk, IfSome}
use Rattle.std.specs.declared.option.Option.{Option}
use Rattle.std.proofs.lemmas.List.{take_at}
use Rattle.isdbt_base.specs.declared.kinds.Mode.{Mode}
use Rattle.isdbt_base.specs.declared.kinds.Guard.{Guard}
use Rattle.edge_io.specs.declared.shelf.Seat.TheVariants as seats
use Rattle.seg_receiver.specs.declared.aim.Aim.{Aim}
use Rattle.seg_receiver.specs.Aims.{aim_of}
use Rattle.seg_receiver.specs.CellStream.{view_of}
use Rattle.seg_receiver.specs.EpochReceiver.{StandsFor}
use Rattle.seg_receiver.specs.EpochAnswers.{Progress, HeadTaken, HeadAnswer, TakeAnswer, InEpoch}
use Rattle.seg_receiver.proofs.BufferRoom.{frame-fits, cells-fit_of}
use Rattle.seg_receiver.proofs.EpochParts.{mode-is}
use Rattle.seg_receiver.proofs.EpochProgress.{next_due, next_head}
use Rattle.seg_receiver.proofs.ViewLaws.{laid}
use Rattle.seg_receiver.proofs.epochs.next_frame.Goals as goal

pub returns-in-Ok-None-clause-answer : goal.returns-in-Ok-None-clause-answer
returns-in-Ok-None-clause-answer g c = λ stream start first now so_far other.
    let e = c.args.epoch in
    let due = next_due (view_of e.how stream) (aim_of e.partial) stream e.limit start c.args.number (e.mode, e.guard) c.args.last.now _ first now so_far other in
    let P : Option (Mode × Guard) → Type 0 = λ o. HeadAnswer (view_of e.how stream) (aim_of e.partial) stream e.limit c.args.number first now (g.H.Shelf.left c.take_head.new.shelf seats.In) (Ok o) in
    subst P c.in-Ok-None.field-0-is (c.in-Ok-None.ensures.answer (aim_of e.partial) stream e.limit (Some c.args.last.now) first now c.requires.below so_far.so_far due)

pub returns-in-Err-clause-answer : goal.returns-in-Err-clause-answer
returns-in-Err-clause-answer g c = λ stream start first now so_far other.
    let e = c.args.epoch in
    let due = next_due (view_of e.how stream) (aim_of e.partial) stream e.limit start c.args.number (e.mode, e.guard) c.args.last.now _ first now so_far other in
    c.in-Err.ensures.answer (aim_of e.partial) stream e.limit (Some c.args.last.now) first now c.requires.below so_far.so_far due

pub returns-clause-answer : goal.returns-clause-answer
returns-clause-answer g c = λ stream start first now so_far other.
    let e = c.args.epoch in
    let v = view_of e.how stream in
    let due = next_due v (aim_of e.partial) stream e.limit start c.args.number (e.mode, e.guard) c.args.last.now _ first now so_far other in
    let P : Option (Mode × Guard) → Type 0 = λ o. HeadAnswer v (aim_of e.partial) stream e.limit c.args.number first now (g.H.Shelf.left c.take_head.new.shelf seats.In) (Ok o) in
    let head : P (Some c.in-Ok-Some.field-0-0) = subst P c.in-Ok-Some.field-0-is (c.in-Ok-Some.ensures.answer (aim_of e.partial) stream e.limit (Some c.args.last.now) first now c.requires.below so_far.so_far due) in
    let here = next_head v (aim_of e.partial) stream e.limit start c.args.number (e.mode, e.guard) c.in-Ok-Some.field-0-0 c.args.last.now _ _ first now (laid e.how.fix e.how.form stream) so_far other head in
    let frame = c.read_further.new.buffer in
    let size : length frame ≡ vec_len c.args.buffers.now.frame = c.read_further.auto.buffer ∙ c.deref_mut.ensures.len in
    let held = take_at frame (drop (length frame) c.args.buffers.now.frame.items) (vec_len c.args.buffers.now.frame) size in
    let Q : List ℕ → Type 0 = λ xs. TakeAnswer v (aim_of e.partial) stream e.limit c.args.number (e.mode, e.guard) (Some c.args.last.now) xs first now (g.H.Shelf.left c.read_further.new.shelf seats.In) c.read_further.result in
    let R : Aim → Type 0 = λ aim. Progress v aim stream e.limit c.args.number (Some c.args.last.now) (g.H.Shelf.left c.args.shelf.now seats.In) first now
    → TakeAnswer v aim stream e.limit c.args.number (e.mode, e.guard) (Some c.args.last.now) frame first now (g.H.Shelf.left c.read_further.new.shelf seats.In) c.read_further.result in
    subst Q (sym held) (subst R c.aim_of.ensures (λ so_far. c.read_further.ensures.answer stream e.limit _ first now c.requires.below so_far here) so_far.so_far)

-- where all of a frame came, more follows
if_more : {T E : Type 0} (P Q : Type 0) (r : _) → (P → Q) → IfOk {T = Option T} {E = E} r (λ o. IfSome o (λ word. P)) → IfOk {T = Option T} {E = E} r (λ o. IfSome o (λ word. Q))
if_more P Q (Ok None) f h = tt
if_more P Q (Ok (Some x)) f h = f h
if_more P Q (Err e) f h = tt

pub returns-clause-state : goal.returns-clause-state
returns-clause-state g c =
    let e = c.args.epoch in
    let number = c.args.number in
    let old = c.args.receiver.now in
    let new = c.read_further.new.receiver in
    if_more
    ((stream : List ℕ) → HeadTaken (view_of e.how stream) stream number (e.mode, e.guard) (g.H.Shelf.left c.take_head.new.shelf seats.In)
    → (start h : ℕ) → start + h ≡ number → StandsFor old (view_of e.how stream).cell start h → StandsFor new (view_of e.how stream).cell start h)
    ((stream : List ℕ) (start h : ℕ) (first now : Option (List ℕ)) → InEpoch (view_of e.how stream) (aim_of e.partial) stream e.limit start number (e.mode, e.guard) c.args.last.now (g.H.Shelf.left c.args.shelf.now seats.In) first now → (c.args.last.now.0.countdown ≡ 0 → ⊥)
    → start + h ≡ number → StandsFor old (view_of e.how stream).cell start h → StandsFor new (view_of e.how stream).cell start h)
    c.read_further.result
    (λ state stream start h first now so_far other is stands.
    let v = view_of e.how stream in
    let due = next_due v (aim_of e.partial) stream e.limit start number (e.mode, e.guard) c.args.last.now _ first now so_far other in
    let P : Option (Mode × Guard) → Type 0 = λ o. HeadAnswer v (aim_of e.partial) stream e.limit number first now (g.H.Shelf.left c.take_head.new.shelf seats.In) (Ok o) in
    let head : P (Some c.in-Ok-Some.field-0-0) = subst P c.in-Ok-Some.field-0-is (c.in-Ok-Some.ensures.answer (aim_of e.partial) stream e.limit (Some c.args.last.now) first now c.requires.below so_far.so_far due) in
    let here = next_head v (aim_of e.partial) stream e.limit start number (e.mode, e.guard) c.in-Ok-Some.field-0-0 c.args.last.now _ _ first now (laid e.how.fix e.how.form stream) so_far other head in
    state stream here start h is stands)
    c.read_further.ensures.state

pub read_further-requires-clause-mode : goal.read_further-requires-clause-mode
read_further-requires-clause-mode g c = mode-is c.args.epoch.partial c.args.epoch.mode c.args.epoch.guard c.requires.receiver.0 c.args.receiver.now c.requires.receiver.1

pub read_further-requires-clause-size : goal.read_further-requires-clause-size
read_further-requires-clause-size g c =
    let fits = frame-fits c.args.epoch.how.form c.args.epoch.mode c.args.epoch.guard c.args.buffers.now c.requires.can_have c.requires.room in
    let len = c.deref_mut.ensures.len in
    omega (arith, fits, len)

pub read_further-requires-clause-room : goal.read_further-requires-clause-room
read_further-requires-clause-room g c =
    let fits = cells-fit_of c.args.epoch.how.form c.args.epoch.mode c.args.epoch.guard c.args.receiver.now c.args.buffers.now c.requires.can_have c.requires.room in
    let len = c.deref_mut-2.ensures.len in
    omega (arith, fits, len)
