use Rattle.std.proofs.Common.{◌≡◌, vec_len}
use Rattle.layer_chain.proofs.BitPathLaws.{FedLines}
use Rattle.layer_chain.proofs.bit_paths.BitPaths.feed.Given as goal

abbrev pub invariant-loop-bit : goal.invariant-loop-bit
invariant-loop-bit l = record {
  room : vec_len l.self.late ≡ vec_len l.fn.self.late;
  fed : FedLines l.fn.self.lines.items l.self.lines.items l.input l.output l.bit;
}
