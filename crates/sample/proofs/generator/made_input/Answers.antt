use Rattle.std.proofs.Common.{◌≡◌, vec_items, ◌++◌, take, length, refl, arith, ap, sym, ◌∙◌}
use Rattle.std.proofs.lemmas.List.{with_items_is, take_all}
use Rattle.isdbt_base.specs.Outcome.{product}
use Rattle.isdbt_base.proofs.Products.{product-none, product-more}
use Rattle.sample.specs.Generator.{made_packet}
use Rattle.sample.proofs.Generated.{state_after-zero, length-made_packet}
use Rattle.sample.proofs.generator.made_input.Goals as goal

pub loop-p-init : goal.loop-p-init
loop-p-init c = record {
  end = refl;
  size = c.in_ok-bytes.ensures.size;
  state = c.new-generator.ensures ∙ sym (state_after-zero c.args.seed);
  bytes = sym (product-none (made_packet c.args.seed));
}

pub put-end-requires : goal.put-end-requires
put-end-requires c =
    let now = c.loop-p.invariant in
    let size : length c.packet.result ≡ 188 = ap length (c.packet.ensures.packet c.args.seed c.loop-p.p now.state) ∙ length-made_packet c.args.seed c.loop-p.p in
    let end = now.end in
    let room = now.size in
    let len = c.deref_mut.ensures.len in
    let less = c.loop-p-test.true in
    omega (arith, size, end, room, len, less)

pub loop-p-preserved : goal.loop-p-preserved
loop-p-preserved c =
    let now = c.loop-p.invariant in
    let seed = c.args.seed in
    let p = c.loop-p.p in
    let packet = c.packet.ensures.packet seed p now.state in
    let size : length c.packet.result ≡ 188 = ap length packet ∙ length-made_packet seed p in
    record {
      end = (let end = now.end in let more = c.put-end.ensures.end in omega (arith, end, more, size));
      size = now.size;
      state = c.packet.ensures.state seed p now.state;
      bytes = ap (take c.put-end.result) (with_items_is c.loop-p.bytes c.put-end.new.out (omega arith)) ∙ c.put-end.ensures.items
          ∙ ap (λ xs. take c.loop-p.end xs ++ c.packet.result) c.deref_mut.ensures.value
          ∙ ap (λ xs. xs ++ c.packet.result) now.bytes ∙ ap (λ xs. product (made_packet seed) p ++ xs) packet ∙ sym (product-more (made_packet seed) p);
    }

pub returns : goal.returns
returns c =
    let now = c.loop-p.invariant in
    let p = c.loop-p.p in
    let past = c.loop-p-test.false in
    let most = c.loop-p.auto.p-end in
    let last : p ≡ c.args.count = omega (arith, past, most) in
    let end = now.end in
    let size = now.size in
    let ok = c.loop-p.bytes.ok in
    sym (take_all c.loop-p.end (vec_items c.loop-p.bytes) (omega (arith, ok, end, size, last))) ∙ now.bytes ∙ ap (product (made_packet c.args.seed)) last
