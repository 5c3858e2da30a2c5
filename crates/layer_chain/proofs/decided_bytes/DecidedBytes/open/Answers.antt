use Rattle.std.proofs.Common.{arith}
use Rattle.layer_chain.proofs.decided_bytes.DecidedBytes.open.Goals as goal

pub returns-clause-state : goal.returns-clause-state
returns-clause-state c = λ read. record {
  decoder_stands = c.start.ensures.state read;
  count = omega arith;
  bytes_are = λ i h. absurd (omega arith);
  bits_are = λ i h. absurd (omega arith);
}
