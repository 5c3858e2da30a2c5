use Rattle.std.proofs.Common.{Ok, Err, refl, sym, ap, subst, inr}
use Rattle.remux_core.specs.Answers.{remux_kind}
use Rattle.isdbt_cli.specs.declared.fault.Outcome.TheVariants.{Fault}
use Rattle.isdbt_cli.specs.Faults.{run_fault_of}
use Rattle.isdbt_cli.specs.Run.{AreSeated}
use Rattle.isdbt_cli.proofs.NamedInputs.{used_open, tells}
use Rattle.isdbt_cli.proofs.Outcomes.{remux_keeps, not_unopened, seated}
use Rattle.isdbt_cli.proofs.run.run_remux.Goals as goal

pub remux-requires-clause-open : goal.remux-requires-clause-open
remux-requires-clause-open g c = λ x used. used_open c.args.plan.now _ _ _ _ _ _ c.requires.accepted c.in-Ok.ensures.opened x used

pub returns-in-Ok-remux-clause-answer : goal.returns-in-Ok-remux-clause-answer
returns-in-Ok-remux-clause-answer g c = λ input hold. inr (Ok c.in-Ok-remux.frames, refl, c.in-Ok-remux.ensures.answer input (tells c.args.plan.now _ _ _ _ _ _ input c.requires.accepted c.in-Ok.ensures.opened hold))

pub returns-in-Err-remux-clause-answer : goal.returns-in-Err-remux-clause-answer
returns-in-Err-remux-clause-answer g c = λ input hold. inr (Err c.in-Err-remux.fault, ap Fault c.from.ensures, c.in-Err-remux.ensures.answer input (tells c.args.plan.now _ _ _ _ _ _ input c.requires.accepted c.in-Ok.ensures.opened hold))

pub returns-in-Err-remux-clause-seats : goal.returns-in-Err-remux-clause-seats
returns-in-Err-remux-clause-seats g c =
    seated run_fault_of remux_kind _ _ c.in-Err-remux.fault c.from.result remux_keeps c.from.ensures (subst (AreSeated _) (sym c.in-Err-remux.ensures.still_open) c.in-Ok.ensures.opened.seats)

pub returns-in-Err-remux-clause-unopened : goal.returns-in-Err-remux-clause-unopened
returns-in-Err-remux-clause-unopened g c = λ seat e. not_unopened _ run_fault_of remux_kind c.in-Err-remux.fault c.from.result seat remux_keeps c.from.ensures e
