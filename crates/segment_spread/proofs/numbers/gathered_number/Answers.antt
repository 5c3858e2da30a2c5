use Rattle.std.proofs.Common.{ℕ, ◌+◌, ◌-◌, ◌*◌, ◌%◌, ◌<◌, ap, sym, subst, ◌∙◌}
use Rattle.isdbt_base.specs.Numbers.{carriers}
use Rattle.segment_spread.specs.declared.section.Section.{Section}
use Rattle.segment_spread.specs.Places.{section_of}
use Rattle.segment_spread.specs.Spreading.{gathered_number}
use Rattle.segment_spread.proofs.Moving.{gathered_number-at}
use Rattle.segment_spread.proofs.numbers.gathered_number.Goals as goal

pub returns-clause-value : goal.returns-clause-value
returns-clause-value c mode size =
    let segment = c.args.segment in
    let carrier = c.args.carrier in
    let partial = c.args.partial in
    let formula : Section → ℕ → ℕ → ℕ = λ s n before. s.first * n + (before * s.segments + (segment - s.first)) in
    let below : carrier < carriers mode = subst (λ n. carrier < n) size c.requires.carrier in
    ap (λ s. formula s c.args.size c.wrapped-before.result) c.section_of-section.ensures.value
    ∙ ap (formula (section_of partial segment) c.args.size) c.wrapped-before.ensures.value
    ∙ ap (λ n. formula (section_of partial segment) n ((carrier + (n - segment)) % n)) size
    ∙ sym (gathered_number-at partial mode segment carrier below)
    ∙ ap (λ n. gathered_number partial mode (segment * n + carrier)) (sym size)
