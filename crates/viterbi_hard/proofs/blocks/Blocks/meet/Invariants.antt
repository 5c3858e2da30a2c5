use Rattle.std.proofs.Common.{◌≡◌, ℕ, ◌*◌, ◌<◌, List, [], get_or, length}
use Rattle.viterbi_hard.specs.declared.received.Received.{Received}
use Rattle.viterbi_hard.specs.Blocks.{AreLabels, HasMaps, Lead, place_back}
use Rattle.viterbi_hard.proofs.blocks.Blocks.meet.Given as goal

abbrev pub invariant-loop-back : goal.invariant-loop-back
invariant-loop-back l = record {
  maps : l.self.maps ≡ l.fn.self.maps;
  oldest : l.self.oldest ≡ l.fn.self.oldest;
  long : length l.self.kept.labels ≡ 16;
  lead : (rs : List Received) → HasMaps l.fn.self rs → Lead l.lanes (8 * l.back) rs;
  kept : (rs : List Received) → HasMaps l.fn.self rs → (b : ℕ) → b < l.back → AreLabels (get_or l.self.kept.labels (place_back l.self.oldest b) []) b rs;
}
