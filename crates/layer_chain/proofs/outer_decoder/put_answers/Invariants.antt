use Rattle.std.proofs.Common.{◌≡◌, ◌*◌, ◌/◌, length}
use Rattle.energy_prbs.specs.StandsFor.{StandsFor}
use Rattle.layer_chain.specs.OuterWords.{outer_answer}
use Rattle.layer_chain.specs.UnitWords.{word_in}
use Rattle.layer_chain.proofs.LaidPackets.{AreLaid}
use Rattle.layer_chain.proofs.outer_decoder.put_answers.Given as goal

abbrev pub invariant-loop : goal.invariant-loop
invariant-loop l = record {
  room : length l.out ≡ 188 * (length l.units / 204);
  unit : l.unit ≡ 204 * l.counter;
  at : l.at ≡ 188 * l.counter;
  state : StandsFor l.prbs (204 * l.counter);
  laid : AreLaid (λ j. outer_answer (word_in (length l.units / 204) l.units j)) l.out l.counter;
}
