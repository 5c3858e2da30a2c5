use Rattle.std.proofs.Common.{◌≡◌, ℕ, ◌*◌, ◌<◌, [], length, get_or}
use Rattle.energy_prbs.specs.StandsFor.{StandsFor}
use Rattle.layer_chain.specs.SentBytes.{sent_byte}
use Rattle.layer_chain.proofs.units.put_units.Given as goal

abbrev pub invariant-loop-packet : goal.invariant-loop-packet
invariant-loop-packet l = record {
  place : l.at ≡ 204 * l.packet-index;
  state : StandsFor l.prbs (204 * l.packet-index);
  written : (n : ℕ) → n < l.at → get_or l.out n 0 ≡ sent_byte (length l.packets) (λ m. get_or l.packets m []) n;
}
