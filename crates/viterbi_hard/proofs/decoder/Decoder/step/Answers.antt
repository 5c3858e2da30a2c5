use Rattle.std.proofs.Common.{◌∷◌, arith}
use Rattle.viterbi_hard.specs.Steps.{read_of}
use Rattle.viterbi_hard.proofs.decoder.Decoder.step.Goals as goal

pub returns-clause-decides : goal.returns-clause-decides
returns-clause-decides c = λ rs k long. c.oldest_bit.ensures (read_of c.args.read ∷ rs) (c.advance.ensures.keeps rs k) (omega arith)
