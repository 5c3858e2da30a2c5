use Rattle.std.proofs.Common.{◌≡◌, ℕ, ◌*◌, ◌<◌, ◌≤◌, List, get_or, length}
use Rattle.viterbi_hard.specs.declared.received.Received.{Received}
use Rattle.viterbi_hard.specs.Blocks.{AllLead, AreKnown, HasMaps, place_back}
use Rattle.viterbi_hard.proofs.blocks.Blocks.trace.Given as goal

abbrev pub invariant-loop-block : goal.invariant-loop-block
invariant-loop-block l = record {
  maps : l.self.maps ≡ l.fn.self.maps;
  oldest : l.self.oldest ≡ l.fn.self.oldest;
  long : length l.self.labels ≡ 16;
  low : l.end < 64;
  lead : (rs : List Received) → HasMaps l.fn.self rs → AllLead l.lane (8 * l.back) rs → AllLead l.end (8 * l.block) rs;
  set : (rs : List Received) → HasMaps l.fn.self rs → AllLead l.lane (8 * l.back) rs → (b : ℕ) → l.back ≤ b → b < l.block → AreKnown (get_or l.self.labels (place_back l.self.oldest b) 0) b rs;
}
