use Rattle.std.proofs.Common.{Ok, Err, ◌∙◌, refl, sym, ap, subst, inr}
use Rattle.seg_receiver.specs.ReceiveAnswers.{receive_kind}
use Rattle.isdbt_cli.specs.declared.fault.Outcome.TheVariants.{Fault}
use Rattle.isdbt_cli.specs.Faults.{run_fault_of_receive}
use Rattle.isdbt_cli.specs.Run.{AreSeated}
use Rattle.isdbt_cli.proofs.NamedInputs.{lone_stopped, lone_seated}
use Rattle.isdbt_cli.proofs.Outcomes.{receive_keeps, not_unopened, seated}
use Rattle.isdbt_cli.proofs.run.run_cells.Goals as goal

pub returns-in-Err-clause-seats : goal.returns-in-Err-clause-seats
returns-in-Err-clause-seats g c = lone_stopped _ _ _ c.in-Err.ensures.other_open c.requires c.in-Err.ensures.closed

pub returns-in-Ok-read_cells-clause-answer : goal.returns-in-Ok-read_cells-clause-answer
returns-in-Ok-read_cells-clause-answer g c = λ input holds. inr (Ok c.in-Ok-read_cells.frames, refl, c.in-Ok-read_cells.ensures.answer input (c.in-Ok.ensures.content ∙ holds))

pub returns-in-Ok-read_cells-clause-seats : goal.returns-in-Ok-read_cells-clause-seats
returns-in-Ok-read_cells-clause-seats g c = subst (AreSeated _) (sym c.in-Ok-read_cells.ensures.still_open) (lone_seated _ _ _ c.in-Ok.ensures.other_open c.requires c.in-Ok.ensures.opened)

pub returns-in-Err-read_cells-clause-answer : goal.returns-in-Err-read_cells-clause-answer
returns-in-Err-read_cells-clause-answer g c = λ input holds. inr (Err c.in-Err-read_cells.fault, ap Fault c.from.ensures, c.in-Err-read_cells.ensures.answer input (c.in-Ok.ensures.content ∙ holds))

pub returns-in-Err-read_cells-clause-seats : goal.returns-in-Err-read_cells-clause-seats
returns-in-Err-read_cells-clause-seats g c =
    seated run_fault_of_receive receive_kind _ _ c.in-Err-read_cells.fault c.from.result receive_keeps c.from.ensures (subst (AreSeated _) (sym c.in-Err-read_cells.ensures.still_open) (lone_seated _ _ _ c.in-Ok.ensures.other_open c.requires c.in-Ok.ensures.opened))

pub returns-in-Err-read_cells-clause-unopened : goal.returns-in-Err-read_cells-clause-unopened
returns-in-Err-read_cells-clause-unopened g c = λ seat e. not_unopened _ run_fault_of_receive receive_kind c.in-Err-read_cells.fault c.from.result seat receive_keeps c.from.ensures e
