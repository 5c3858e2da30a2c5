use Rattle.std.proofs.Common.{◌≡◌, ℕ, ◌+◌, ◌*◌, List, ◌++◌, length}
use Rattle.isdbt_base.specs.Numbers.{rate_bits}
use Rattle.conv_punct.specs.CodedBits.{bit_of}
use Rattle.conv_punct.specs.MotherCode.{AreNewest, AreCoded, ChangesOnly}
use Rattle.conv_punct.specs.StandsFor.{StandsFor, BeginsWith, coded_size}
use Rattle.conv_punct.proofs.encoder.Encoder.feed.Given as goal

abbrev pub invariant-loop-index : goal.invariant-loop-index
invariant-loop-index l = record {
  place : l.at ≡ rate_bits l.fn.self.rate * (l.patterns * l.index);
  newest : (fed : List ℕ) (stream : ℕ → ℕ) → StandsFor l.fn.self fed → BeginsWith stream (fed ++ l.bytes) → AreNewest l.inputs 6 (bit_of stream) (8 * (length fed + l.unit * l.index));
  coded : (fed : List ℕ) (stream : ℕ → ℕ) → StandsFor l.fn.self fed → BeginsWith stream (fed ++ l.bytes) → AreCoded l.fn.self.rate (bit_of stream) (coded_size l.fn.self.rate (length fed)) l.out 0 (rate_bits l.fn.self.rate * (l.patterns * l.index));
  others : ChangesOnly l.initial.out l.out 0 (rate_bits l.fn.self.rate * (l.patterns * l.index));
}
