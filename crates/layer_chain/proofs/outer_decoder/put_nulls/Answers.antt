use Rattle.std.proofs.Common.{◌≡◌, ◌+◌, ◌*◌, ◌/◌, length, take, refl, arith, sym, subst, ap, ◌∙◌}
use Rattle.ts_packet.specs.Packets.{null_packet}
use Rattle.layer_chain.proofs.LaidPackets.{AreLaid, laid-none, laid-more, laid-nulls}
use Rattle.layer_chain.proofs.outer_decoder.put_nulls.Goals as goal

pub loop-init : goal.loop-init
loop-init c = record { room = refl; at = omega arith; laid = laid-none _ _ }

pub put-at-requires : goal.put-at-requires
put-at-requires c =
    let size : length c.bytes.result.now ≡ 188 = ap length c.bytes.ensures.value ∙ c.bytes.ensures.packet.size in
    omega (arith, size, c.loop.invariant.room, c.loop.invariant.at, c.loop-test.true)

pub loop-preserved : goal.loop-preserved
loop-preserved c =
    let part = c.bytes.result.now in
    let size : length part ≡ 188 = ap length c.bytes.ensures.value ∙ c.bytes.ensures.packet.size in
    let end : c.put-at.result ≡ c.loop.at + 188 = omega (arith, size, c.put-at.ensures.end) in
    record {
      room = omega (arith, c.put-at.auto.out, c.loop.invariant.room);
      at = omega (arith, end, c.loop.invariant.at);
      laid = laid-more (λ _. null_packet) c.loop.out c.put-at.new.out part c.loop.counter c.loop.at c.loop.invariant.at (omega (arith, c.loop.invariant.room, c.loop.invariant.at, c.loop-test.true)) size
          (ap (λ n. take n c.put-at.new.out) (sym end) ∙ c.put-at.ensures.items)
          (c.bytes.ensures.value ∙ c.null-null.ensures.value) c.loop.invariant.laid;
    }

pub returns : goal.returns
returns c =
    let n = length c.args.out.now / 188 in
    let end : c.loop.counter ≡ n = omega arith in
    let whole : length c.loop.out ≡ 188 * n = omega (arith, c.requires, c.loop.invariant.room) in
    laid-nulls c.loop.out n whole (subst (AreLaid (λ _. null_packet) c.loop.out) end c.loop.invariant.laid)
