use Rattle.std.proofs.Common.{◌≡◌, ◌+◌, ◌*◌, [], length, get_or, arith, sym, subst, ap, ◌∙◌}
use Rattle.std.proofs.lemmas.List.{get_or_default}
use Rattle.energy_prbs.specs.StandsFor.{StandsFor}
use Rattle.layer_chain.proofs.UnitLaws.{sent_byte-at, put_goes_on}
use Rattle.layer_chain.specs.SentBytes.{sent_byte}
use Rattle.layer_chain.proofs.units.put_units.Goals as goal

pub loop-packet-preserved : goal.loop-packet-preserved
loop-packet-preserved c = record {
  place = omega arith;
  state = (let e : 204 * c.loop-packet.packet-index + 204 ≡ 204 * (c.loop-packet.packet-index + 1) = omega arith in subst (StandsFor _) e (c.unit_of.ensures.state _ c.loop-packet.invariant.state));
  written =
      let packets = c.args.packets.now in
      let j = c.loop-packet.packet-index in
      let here : get_or packets j [] ≡ c.packet-item.result = get_or_default packets j [] c.packet-item.result c.loop-packet-test.true ∙ sym c.packet-item.is in
      put_goes_on _ _ _ c.unit_of.result _ _ c.put-at.ensures.end (omega arith) c.put-at.ensures.items c.loop-packet.invariant.written (λ a h.
      sent_byte-at (length packets) (λ m. get_or packets m []) j c.unit_of.result c.packet-item.result c.loop-packet-test.true here
      (c.unit_of.ensures.bytes _ c.loop-packet.invariant.state) c.unit_of.ensures.sync a (omega arith)
      ∙ ap (λ n. sent_byte (length packets) (λ m. get_or packets m []) (n + a)) (sym c.loop-packet.invariant.place));
}
