use Rattle.std.proofs.Common.{◌≡◌, ◌<◌, ℕ, get_or, length, false}
use Rattle.seg_receiver.specs.CellStream.{tmcc_bit}
use Rattle.seg_receiver.proofs.symbols.word_in.Given as goal

abbrev pub invariant-loop-k : goal.invariant-loop-k
invariant-loop-k l = record {
  size : length l.word ≡ 204;
  bits : (m : ℕ) → m < l.k → get_or l.word m false ≡ tmcc_bit l.fn.mode l.frame 0 m;
}
