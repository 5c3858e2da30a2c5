use Rattle.std.proofs.Common.{sym, ap, ◌∙◌}
use Rattle.tmcc_word.specs.Reading.{info_at}
use Rattle.tmcc_word.proofs.ReadBack.{part-word_of, info-information_bits}
use Rattle.tmcc_word.proofs.writing.info_bits.Goals as goal

pub returns-clause-part : goal.returns-clause-part
returns-clause-part c = λ odd. part-word_of c.args.info.now odd ∙ sym c.information.ensures

pub returns-clause-reads : goal.returns-clause-reads
returns-clause-reads c = ap (λ bits. info_at bits 0) c.information.ensures ∙ info-information_bits c.args.info.now c.acceptance_law.ensures
