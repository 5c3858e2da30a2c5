use Rattle.tmcc_word.proofs.Accepted.{read-fits}
use Rattle.tmcc_word.proofs.laws.reading_law.Goals as goal

pub returns : goal.returns
returns c = read-fits
