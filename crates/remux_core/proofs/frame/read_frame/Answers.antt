use Rattle.std.proofs.Common.{◌∙◌, refl, sym, subst, arith}
use Rattle.isdbt_base.specs.declared.kinds.Layer.TheVariants.{A, B, C}
use Rattle.edge_io.proofs.FrameAnswers.{refused_room}
use Rattle.remux_core.specs.Answers.{remux_kind}
use Rattle.remux_core.specs.Reading.{AreRead, FrameFault}
use Rattle.remux_core.proofs.Standing.{fits, few, stands-next}
use Rattle.remux_core.proofs.frame.read_frame.Goals as goal

pub read-requires-clause-fits : goal.read-requires-clause-fits
read-requires-clause-fits g c = λ x. (
    let e = c.wanted_at.ensures x in
    let room = fits c.args.plan.now c.args.frame c.args.inputs.now (g.H.Shelf.is_open c.args.shelf.now) x c.requires.stands in
    omega (arith, e, room))

pub read-requires-clause-few : goal.read-requires-clause-few
read-requires-clause-few g c = λ x. few c.args.plan.now c.args.frame c.args.inputs.now (g.H.Shelf.is_open c.args.shelf.now) x (omega arith) c.requires.stands

pub fault_of-requires-clause-room_a : goal.fault_of-requires-clause-room_a
fault_of-requires-clause-room_a g c = (let a = c.in-Ok.ensures.room A in let b = c.requires.stands.room A in let small = c.requires.stands.small A in omega (arith, a, b, small))

pub fault_of-requires-clause-room_b : goal.fault_of-requires-clause-room_b
fault_of-requires-clause-room_b g c = (let a = c.in-Ok.ensures.room B in let b = c.requires.stands.room B in let small = c.requires.stands.small B in omega (arith, a, b, small))

pub fault_of-requires-clause-room_c : goal.fault_of-requires-clause-room_c
fault_of-requires-clause-room_c g c = (let a = c.in-Ok.ensures.room C in let b = c.requires.stands.room C in let small = c.requires.stands.small C in omega (arith, a, b, small))

pub fault_of-requires-clause-first_a : goal.fault_of-requires-clause-first_a
fault_of-requires-clause-first_a g c = (let e = c.in-Ok.ensures.first A in let most = few c.args.plan.now c.args.frame c.args.inputs.now (g.H.Shelf.is_open c.args.shelf.now) A (omega arith) c.requires.stands in omega (arith, e, most))

pub fault_of-requires-clause-first_b : goal.fault_of-requires-clause-first_b
fault_of-requires-clause-first_b g c = (let e = c.in-Ok.ensures.first B in let most = few c.args.plan.now c.args.frame c.args.inputs.now (g.H.Shelf.is_open c.args.shelf.now) B (omega arith) c.requires.stands in omega (arith, e, most))

pub fault_of-requires-clause-first_c : goal.fault_of-requires-clause-first_c
fault_of-requires-clause-first_c g c = (let e = c.in-Ok.ensures.first C in let most = few c.args.plan.now c.args.frame c.args.inputs.now (g.H.Shelf.is_open c.args.shelf.now) C (omega arith) c.requires.stands in omega (arith, e, most))

pub returns-in-Some-clause-answer : goal.returns-in-Some-clause-answer
returns-in-Some-clause-answer g c = λ input limit less ready.
    let read : AreRead c.args.plan.now input c.args.frame c.read.new.self (g.H.Shelf.left c.read.new.shelf) = c.in-Ok.ensures.answer c.args.plan.now input c.args.frame c.wanted_at.ensures ready in
    let why = c.in-Some.ensures.refusal c.args.plan.now input limit c.args.frame less (λ x. c.in-Ok.ensures.first x ∙ c.requires.stands.placed x) read.each in
    subst (FrameFault c.args.plan.now input limit c.args.frame (g.H.Shelf.left c.read.new.shelf) c.in-Some.fault) (sym c.in-Some.ensures.kind) (record { left_is = read.ready.left_is; why = sym why })

pub returns-in-None-clause-stands : goal.returns-in-None-clause-stands
returns-in-None-clause-stands g c =
    stands-next c.args.plan.now c.args.frame c.args.inputs.now c.read.new.self (g.H.Shelf.is_open c.args.shelf.now) (g.H.Shelf.is_open c.read.new.shelf) c.requires.stands
    (record {
      seats = c.in-Ok.ensures.seats;
      room = c.in-Ok.ensures.room;
      first = c.in-Ok.ensures.first;
      wanted = λ x. c.in-Ok.ensures.wanted x ∙ c.wanted_at.ensures x;
      ended = c.in-Ok.ensures.ended;
      still_open = c.in-Ok.ensures.still_open;
    })

pub returns-in-None-clause-answer : goal.returns-in-None-clause-answer
returns-in-None-clause-answer g c = λ input limit less ready.
    let read : AreRead c.args.plan.now input c.args.frame c.read.new.self (g.H.Shelf.left c.read.new.shelf) = c.in-Ok.ensures.answer c.args.plan.now input c.args.frame c.wanted_at.ensures ready in
    let why = c.in-None.ensures.refusal c.args.plan.now input limit c.args.frame less (λ x. c.in-Ok.ensures.first x ∙ c.requires.stands.placed x) read.each in
    record { read = read; good = c.in-None.ensures.good refl; fine = sym why }

pub returns-in-Some-clause-reached : goal.returns-in-Some-clause-reached
returns-in-Some-clause-reached g c = λ room written. refused_room (Unit {0}) remux_kind room written c.in-Some.fault c.in-Some.ensures.kind
