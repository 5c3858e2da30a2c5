use Rattle.std.proofs.Common.{arith}
use Rattle.viterbi_hard.proofs.decoder.Decoder.feed_block.Goals as goal

pub returns-then-self-gt0-clause-decides : goal.returns-then-self-gt0-clause-decides
returns-then-self-gt0-clause-decides c = λ rs k z long j h. c.known_block.ensures.decides rs k z (omega (arith, c.if-self-gt0.true)) long j h

pub returns-else-self-gt0-clause-decides : goal.returns-else-self-gt0-clause-decides
returns-else-self-gt0-clause-decides c = λ rs k z long j h. c.searched_block.ensures.decides rs k z (omega (arith, c.if-self-gt0.false)) long j h
