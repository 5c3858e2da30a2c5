use Rattle.std.proofs.Common.{Some, ap}
use Rattle.edge_io.specs.QuietShelf.{is_seat_open, rest_of}
use Rattle.sample.specs.SampleInputs.{sample_input}
use Rattle.sample.specs.Inputs.{number_of}
use Rattle.sample.proofs.Multiplexed.{tells-inputs, all-written, seats-open}
use Rattle.sample.proofs.multiplexing.multiplex.Goals as goal

pub remux-requires-clause-open : goal.remux-requires-clause-open
remux-requires-clause-open c = seats-open c.args.plan.now c.requires (is_seat_open c.in_ok-shelf.shelf) c.in_ok-shelf.ensures.a_open c.in_ok-shelf.ensures.b_open

pub returns-in-Ok : goal.returns-in-Ok
returns-in-Ok c =
    let number = number_of c.args.inputs.now in
    all-written c.args.plan.now number 16 c.in-Ok.field-0 _ _ _ c.requires c.in_ok-frames.ensures.empty (c.in-Ok.ensures.answer (sample_input number) (tells-inputs c.args.plan.now number (λ seat. Some (rest_of c.in_ok-shelf.shelf seat)) c.requires (ap Some c.in_ok-shelf.ensures.a_left) (ap Some c.in_ok-shelf.ensures.b_left)))
