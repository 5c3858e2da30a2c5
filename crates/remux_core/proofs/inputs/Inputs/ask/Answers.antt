use Rattle.std.proofs.Common.{◌∙◌, refl, ap, subst}
use Rattle.std.proofs.lemmas.Result.{err_from_is_err_and}
use Rattle.isdbt_base.specs.declared.kinds.Layer.TheVariants.{A, B, C}
use Rattle.edge_io.specs.declared.shelf.Seat.TheVariants as seats
use Rattle.edge_io.specs.declared.shelf.Seat.{Seat}
use Rattle.remux_core.specs.Answers.{remux_kind}
use Rattle.remux_core.proofs.Asks.{Asked, MoreAt, FaultAt, asked-none, asked-more, no_more_frames, asked_fault, ask_cause, stands-used}
use Rattle.remux_core.proofs.inputs.Inputs.ask.Goals as goal

pub ask-requires : goal.ask-requires
ask-requires g c = record { is_open = λ goes. ap (g.H.Shelf.is_open c.args.shelf.now) c.requires.seats.a ∙ c.requires.is_open A goes }

pub ask-requires-2 : goal.ask-requires-2
ask-requires-2 g c = record {
  is_open = λ goes. ap (g.H.Shelf.is_open c.ask.new.shelf) c.requires.seats.b ∙ ap (λ f. f seats.B) c.in_ok-ask.ensures.still_open ∙ c.requires.is_open B goes;
}

pub ask-requires-3 : goal.ask-requires-3
ask-requires-3 g c = record {
  is_open = λ goes.
      ap (g.H.Shelf.is_open c.ask-2.new.shelf) c.requires.seats.c ∙ ap (λ f. f seats.C) c.in_ok-ask-2.ensures.still_open ∙ ap (λ f. f seats.C) c.in_ok-ask.ensures.still_open ∙ c.requires.is_open C goes;
}

pub returns-in_err-ask-clause-answer : goal.returns-in_err-ask-clause-answer
returns-in_err-ask-clause-answer g c = λ p input before after plan begins so_far.
    let m = c.args.limit in
    let i = c.args.self.now in
    let l0 = g.H.Shelf.left c.args.shelf.now in
    let l1 = g.H.Shelf.left c.ask.new.shelf in
    let failed = err_from_is_err_and c.from_residual.result c.from_residual.ensures.1 in
    let fault = c.in_err-ask.field-0.0 in
    let at = subst (λ (s : Seat). FaultAt s i.a.ended l0 l1 fault) c.requires.seats.a (c.in_err-ask.ensures.other_left, c.in_err-ask.ensures.answer) in
    rw (failed.1, failed.2) (asked_fault p input m i l0 l0 l1 A before after fault plan begins so_far c.in_err-ask.ensures.never (asked-none p input m l0 so_far.ready.left_is) at)

pub returns-in_err-ask-clause-cause : goal.returns-in_err-ask-clause-cause
returns-in_err-ask-clause-cause g c = λ p f sink stands.
    let i = c.args.self.now in
    let used = stands-used p f i (g.H.Shelf.is_open c.args.shelf.now) A stands c.in_err-ask.ensures.never in
    let failed = err_from_is_err_and c.from_residual.result c.from_residual.ensures.1 in
    rw (failed.1, failed.2) (ask_cause p A i.a.seat (g.H.Shelf.faults c.args.shelf.now) (g.H.Shelf.faults c.args.shelf.now) (g.H.Shelf.faults c.ask.new.shelf) sink (remux_kind c.in_err-ask.field-0.0)
    used c.requires.seats.a (refl) c.in_err-ask.ensures.cause)

pub returns-in_err-ask-2-clause-answer : goal.returns-in_err-ask-2-clause-answer
returns-in_err-ask-2-clause-answer g c = λ p input before after plan begins so_far.
    let m = c.args.limit in
    let i = c.args.self.now in
    let l0 = g.H.Shelf.left c.args.shelf.now in
    let l1 = g.H.Shelf.left c.ask.new.shelf in
    let l2 = g.H.Shelf.left c.ask-2.new.shelf in
    let asked_a : Asked p input m 1 l1 =
    asked-more p input m i l0 l0 l1 A so_far.ready (asked-none p input m l0 so_far.ready.left_is)
    (subst (λ (s : Seat). MoreAt s i.a.ended l0 l1) c.requires.seats.a (c.in_ok-ask.ensures.other_left, c.in_ok-ask.ensures.answer)) in
    let failed = err_from_is_err_and c.from_residual-in_err-ask-2.result c.from_residual-in_err-ask-2.ensures.1 in
    let fault = c.in_err-ask-2.field-0.0 in
    let at = subst (λ (s : Seat). FaultAt s i.b.ended l1 l2 fault) c.requires.seats.b (c.in_err-ask-2.ensures.other_left, c.in_err-ask-2.ensures.answer) in
    rw (failed.1, failed.2) (asked_fault p input m i l0 l1 l2 B before after fault plan begins so_far c.in_err-ask-2.ensures.never asked_a at)

pub returns-in_err-ask-2-clause-cause : goal.returns-in_err-ask-2-clause-cause
returns-in_err-ask-2-clause-cause g c = λ p f sink stands.
    let i = c.args.self.now in
    let used = stands-used p f i (g.H.Shelf.is_open c.args.shelf.now) B stands c.in_err-ask-2.ensures.never in
    let failed = err_from_is_err_and c.from_residual-in_err-ask-2.result c.from_residual-in_err-ask-2.ensures.1 in
    rw (failed.1, failed.2) (ask_cause p B i.b.seat (g.H.Shelf.faults c.args.shelf.now) (g.H.Shelf.faults c.ask.new.shelf) (g.H.Shelf.faults c.ask-2.new.shelf) sink (remux_kind c.in_err-ask-2.field-0.0)
    used c.requires.seats.b (c.in_ok-ask.ensures.cause) c.in_err-ask-2.ensures.cause)

pub returns-in_err-ask-3-clause-answer : goal.returns-in_err-ask-3-clause-answer
returns-in_err-ask-3-clause-answer g c = λ p input before after plan begins so_far.
    let m = c.args.limit in
    let i = c.args.self.now in
    let l0 = g.H.Shelf.left c.args.shelf.now in
    let l1 = g.H.Shelf.left c.ask.new.shelf in
    let l2 = g.H.Shelf.left c.ask-2.new.shelf in
    let l3 = g.H.Shelf.left c.ask-3.new.shelf in
    let asked_a : Asked p input m 1 l1 =
    asked-more p input m i l0 l0 l1 A so_far.ready (asked-none p input m l0 so_far.ready.left_is)
    (subst (λ (s : Seat). MoreAt s i.a.ended l0 l1) c.requires.seats.a (c.in_ok-ask.ensures.other_left, c.in_ok-ask.ensures.answer)) in
    let asked_b : Asked p input m 2 l2 =
    asked-more p input m i l0 l1 l2 B so_far.ready asked_a
    (subst (λ (s : Seat). MoreAt s i.b.ended l1 l2) c.requires.seats.b (c.in_ok-ask-2.ensures.other_left, c.in_ok-ask-2.ensures.answer)) in
    let failed = err_from_is_err_and c.from_residual-in_err-ask-3.result c.from_residual-in_err-ask-3.ensures.1 in
    let fault = c.in_err-ask-3.field-0.0 in
    let at = subst (λ (s : Seat). FaultAt s i.c.ended l2 l3 fault) c.requires.seats.c (c.in_err-ask-3.ensures.other_left, c.in_err-ask-3.ensures.answer) in
    rw (failed.1, failed.2) (asked_fault p input m i l0 l2 l3 C before after fault plan begins so_far c.in_err-ask-3.ensures.never asked_b at)

pub returns-in_err-ask-3-clause-cause : goal.returns-in_err-ask-3-clause-cause
returns-in_err-ask-3-clause-cause g c = λ p f sink stands.
    let i = c.args.self.now in
    let used = stands-used p f i (g.H.Shelf.is_open c.args.shelf.now) C stands c.in_err-ask-3.ensures.never in
    let failed = err_from_is_err_and c.from_residual-in_err-ask-3.result c.from_residual-in_err-ask-3.ensures.1 in
    rw (failed.1, failed.2) (ask_cause p C i.c.seat (g.H.Shelf.faults c.args.shelf.now) (g.H.Shelf.faults c.ask-2.new.shelf) (g.H.Shelf.faults c.ask-3.new.shelf) sink (remux_kind c.in_err-ask-3.field-0.0)
    used c.requires.seats.c (c.in_ok-ask-2.ensures.cause ∙ c.in_ok-ask.ensures.cause) c.in_err-ask-3.ensures.cause)

pub returns-clause-answer : goal.returns-clause-answer
returns-clause-answer g c = λ p input before after plan begins so_far.
    let m = c.args.limit in
    let i = c.args.self.now in
    let l0 = g.H.Shelf.left c.args.shelf.now in
    let l1 = g.H.Shelf.left c.ask.new.shelf in
    let l2 = g.H.Shelf.left c.ask-2.new.shelf in
    let l3 = g.H.Shelf.left c.ask-3.new.shelf in
    let asked_a : Asked p input m 1 l1 =
    asked-more p input m i l0 l0 l1 A so_far.ready (asked-none p input m l0 so_far.ready.left_is)
    (subst (λ (s : Seat). MoreAt s i.a.ended l0 l1) c.requires.seats.a (c.in_ok-ask.ensures.other_left, c.in_ok-ask.ensures.answer)) in
    let asked_b : Asked p input m 2 l2 =
    asked-more p input m i l0 l1 l2 B so_far.ready asked_a
    (subst (λ (s : Seat). MoreAt s i.b.ended l1 l2) c.requires.seats.b (c.in_ok-ask-2.ensures.other_left, c.in_ok-ask-2.ensures.answer)) in
    let asked_c : Asked p input m 3 l3 =
    asked-more p input m i l0 l2 l3 C so_far.ready asked_b
    (subst (λ (s : Seat). MoreAt s i.c.ended l2 l3) c.requires.seats.c (c.in_ok-ask-3.ensures.other_left, c.in_ok-ask-3.ensures.answer)) in
    no_more_frames p input m i l0 l3 before after plan begins so_far asked_c
