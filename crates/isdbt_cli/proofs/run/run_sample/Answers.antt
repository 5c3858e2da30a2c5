use Rattle.std.proofs.Common.{Ok, Err, refl, ap, inr}
use Rattle.sample.specs.Answers.{sample_kind}
use Rattle.isdbt_cli.specs.declared.fault.Outcome.TheVariants.{Fault}
use Rattle.isdbt_cli.specs.Faults.{run_fault_of_sample}
use Rattle.isdbt_cli.proofs.Outcomes.{sample_keeps, not_unopened}
use Rattle.isdbt_cli.proofs.run.run_sample.Goals as goal

pub returns-in-Ok-clause-answer : goal.returns-in-Ok-clause-answer
returns-in-Ok-clause-answer g c = inr (Ok c.in-Ok.frames, refl, c.in-Ok.ensures.answer)

pub returns-in-Err-clause-answer : goal.returns-in-Err-clause-answer
returns-in-Err-clause-answer g c = inr (Err c.in-Err.fault, ap Fault c.from.ensures, c.in-Err.ensures.answer)

pub returns-in-Ok-clause-cause : goal.returns-in-Ok-clause-cause
returns-in-Ok-clause-cause g c = λ shelf. inr (Ok c.in-Ok.frames, refl, c.in-Ok.ensures.cause shelf)

pub returns-in-Err-clause-cause : goal.returns-in-Err-clause-cause
returns-in-Err-clause-cause g c = λ shelf. inr (Err c.in-Err.fault, ap Fault c.from.ensures, c.in-Err.ensures.cause shelf)

pub returns-in-Err-clause-opens_none : goal.returns-in-Err-clause-opens_none
returns-in-Err-clause-opens_none g c = λ seat e. not_unopened ⊥ run_fault_of_sample sample_kind c.in-Err.fault c.from.result seat sample_keeps c.from.ensures e
