use Rattle.std.proofs.Common.{sym, ◌∙◌}
use Rattle.tmcc_word.proofs.CausesOfInformation.{info_at-cause}
use Rattle.tmcc_word.proofs.reading.read_info.Goals as goal

pub returns-clause-cause : goal.returns-clause-cause
returns-clause-cause c = λ fault e. info_at-cause c.args.bits.now 0 fault (sym c.info_read.ensures ∙ e)
