use Rattle.tmcc_word.proofs.ReadBack.{length-information_bits, part-word_of, info-information_bits}
use Rattle.tmcc_word.proofs.Accepted.{info-fits}
use Rattle.tmcc_word.proofs.laws.info_law.Goals as goal

pub returns : goal.returns
returns c = record { size = length-information_bits; part = part-word_of; reads = info-information_bits; fits = λ bits. info-fits bits 0 }
