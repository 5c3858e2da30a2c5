use Rattle.tmcc_word.proofs.ReadBack.{length-word_of, codeword-word_of, read-word_of}
use Rattle.tmcc_word.proofs.laws.word_law.Goals as goal

pub returns : goal.returns
returns c = record { size = length-word_of; codeword = codeword-word_of; reads = read-word_of }
