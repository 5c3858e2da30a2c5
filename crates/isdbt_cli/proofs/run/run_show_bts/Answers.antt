use Rattle.std.proofs.Common.{Ok, Err, ◌∙◌, refl, sym, ap, subst, inr}
use Rattle.coder_core.specs.Answers.{code_kind}
use Rattle.isdbt_cli.specs.declared.fault.Outcome.TheVariants.{Fault}
use Rattle.isdbt_cli.specs.Faults.{run_fault_of_code}
use Rattle.isdbt_cli.specs.Run.{AreSeated}
use Rattle.isdbt_cli.proofs.NamedInputs.{lone_stopped, lone_seated}
use Rattle.isdbt_cli.proofs.Outcomes.{code_keeps, not_unopened, seated}
use Rattle.isdbt_cli.proofs.run.run_show_bts.Goals as goal

pub returns-in-Err-clause-seats : goal.returns-in-Err-clause-seats
returns-in-Err-clause-seats g c = lone_stopped _ _ _ c.in-Err.ensures.other_open c.requires c.in-Err.ensures.closed

pub returns-in-Ok-show_bts-clause-answer : goal.returns-in-Ok-show_bts-clause-answer
returns-in-Ok-show_bts-clause-answer g c = λ input holds. inr (Ok c.in-Ok-show_bts.frames, refl, c.in-Ok-show_bts.ensures.answer input (c.in-Ok.ensures.content ∙ holds))

pub returns-in-Ok-show_bts-clause-seats : goal.returns-in-Ok-show_bts-clause-seats
returns-in-Ok-show_bts-clause-seats g c = subst (AreSeated _) (sym c.in-Ok-show_bts.ensures.still_open) (lone_seated _ _ _ c.in-Ok.ensures.other_open c.requires c.in-Ok.ensures.opened)

pub returns-in-Err-show_bts-clause-answer : goal.returns-in-Err-show_bts-clause-answer
returns-in-Err-show_bts-clause-answer g c = λ input holds. inr (Err c.in-Err-show_bts.fault, ap Fault c.from.ensures, c.in-Err-show_bts.ensures.answer input (c.in-Ok.ensures.content ∙ holds))

pub returns-in-Err-show_bts-clause-seats : goal.returns-in-Err-show_bts-clause-seats
returns-in-Err-show_bts-clause-seats g c =
    seated run_fault_of_code code_kind _ _ c.in-Err-show_bts.fault c.from.result code_keeps c.from.ensures (subst (AreSeated _) (sym c.in-Err-show_bts.ensures.still_open) (lone_seated _ _ _ c.in-Ok.ensures.other_open c.requires c.in-Ok.ensures.opened))

pub returns-in-Err-show_bts-clause-unopened : goal.returns-in-Err-show_bts-clause-unopened
returns-in-Err-show_bts-clause-unopened g c = λ seat e. not_unopened _ run_fault_of_code code_kind c.in-Err-show_bts.fault c.from.result seat code_keeps c.from.ensures e
