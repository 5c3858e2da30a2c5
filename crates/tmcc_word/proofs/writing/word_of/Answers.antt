use Rattle.std.proofs.Common.{ap, ◌∙◌}
use Rattle.tmcc_word.specs.Reading.{read}
use Rattle.tmcc_word.proofs.ReadBack.{codeword-word_of, read-word_of}
use Rattle.tmcc_word.proofs.writing.word_of.Goals as goal

pub returns-clause-codeword : goal.returns-clause-codeword
returns-clause-codeword c = rw c.written.ensures (codeword-word_of c.args.info.now c.args.odd)

pub returns-clause-reads : goal.returns-clause-reads
returns-clause-reads c = ap read c.written.ensures ∙ read-word_of c.args.info.now c.args.odd c.acceptance_law.ensures
