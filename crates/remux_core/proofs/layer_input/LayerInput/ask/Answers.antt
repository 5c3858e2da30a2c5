use Rattle.std.proofs.Common.{◌*◌, Bool, Some, Ok, subst, length, drop, ap, refl, ◌∙◌, arith, length-drop, drop-drop}
use Rattle.edge_io.specs.Reading.{EndsAnswer}
use Rattle.remux_core.proofs.layer_input.LayerInput.ask.Goals as goal

pub returns-in-Ok-true-clause-answer : goal.returns-in-Ok-true-clause-answer
returns-in-Ok-true-clause-answer g c = λ first bytes at told.
    let said = subst (λ (b : Bool). EndsAnswer (drop (188 * first) bytes) (g.H.Shelf.left c.ends.new.shelf c.args.self.now.seat) (Ok b)) c.in-Ok-true.field-0-test (c.in-Ok-true.ensures.answer (drop (188 * first) bytes) told) in
    let size = length-drop (188 * first) bytes in
    let none = ap length said.0 in
    record { short = omega (arith, size, none); left_is = said.1 }

pub returns-in-Ok-false-clause-answer : goal.returns-in-Ok-false-clause-answer
returns-in-Ok-false-clause-answer g c = λ first bytes at told.
    let said = subst (λ (b : Bool). EndsAnswer (drop (188 * first) bytes) (g.H.Shelf.left c.ends.new.shelf c.args.self.now.seat) (Ok b)) c.in-Ok-false.field-0-test (c.in-Ok-false.ensures.answer (drop (188 * first) bytes) told) in
    let size = length-drop (188 * first) bytes in
    let some = said.0 in
    record { fault_is = refl; long = omega (arith, size, some); left_is = said.1 ∙ ap Some (drop-drop 1 (188 * first) bytes) }
