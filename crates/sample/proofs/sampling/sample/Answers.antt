use Rattle.std.proofs.Common.{◌∙◌}
use Rattle.sample.proofs.TextLaws.{text-is, finished, write_failed}
use Rattle.sample.proofs.sampling.sample.Goals as goal

pub returns-in-Ok-write_whole-clause-answer : goal.returns-in-Ok-write_whole-clause-answer
returns-in-Ok-write_whole-clause-answer g c =
    let text = text-is c.args.number c.in-Ok.counts.a.tally c.in-Ok.counts.b.tally c.as_bytes.result.now c.in-Ok.ensures.a c.in-Ok.ensures.b (c.as_bytes.ensures.value ∙ c.as_str.ensures.value ∙ c.text_of-text.ensures) in
    finished c.args.number c.as_bytes.result.now _ _ text c.in-Ok-write_whole.ensures.ok

pub returns-in-Err-clause-answer : goal.returns-in-Err-clause-answer
returns-in-Err-clause-answer g c =
    let text = text-is c.args.number c.in-Ok.counts.a.tally c.in-Ok.counts.b.tally c.as_bytes.result.now c.in-Ok.ensures.a c.in-Ok.ensures.b (c.as_bytes.ensures.value ∙ c.as_str.ensures.value ∙ c.text_of-text.ensures) in
    let some = c.in-Err.ensures.some in
    write_failed c.args.number some.0 c.as_bytes.result.now _ _ text some.1 some.2
