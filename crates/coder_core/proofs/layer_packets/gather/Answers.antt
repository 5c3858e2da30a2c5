use Rattle.std.proofs.Common.{◌≡◌, ℕ, ◌+◌, ◌/◌, ◌<◌, true, false, List, length, take, sym, ap, ◌∙◌, arith}
use Rattle.coder_core.proofs.Gathered.{names_layer, first_packets-zero, first_slots-zero, count-more, packets-more, slots-same, packets-same, has_place, packets-all, synced}
use Rattle.coder_core.proofs.layer_packets.gather.Goals as goal
use Rattle.coder_core.proofs.layer_packets.gather.Goals.{then-names, else-names}

pub loop-slot-init : goal.loop-slot-init
loop-slot-init c = record {
  count = first_slots-zero c.args.frame.now c.args.layer;
  most = omega arith;
  taken = first_packets-zero c.args.frame.now c.args.layer c.args.packets.now;
}

pub packet_of-requires-clause-sync : goal.packet_of-requires-clause-sync
packet_of-requires-clause-sync c = synced c.args.frame.now c.requires.sync c.loop-slot.slot (omega (arith, c.loop-slot-test.true, c.slots_of-slot-end.ensures.value))

pub bounds-packets-next : goal.bounds-packets-next
bounds-packets-next c =
    let place = has_place c.args.frame.now c.args.layer c.loop-slot.slot (omega (arith, c.loop-slot-test.true, c.slots_of-slot-end.ensures.value)) (sym c.names.ensures ∙ c.if-names.true) in
    omega (arith, place, c.requires.count, c.loop-slot.invariant.count, c.loop-slot.auto.packets)

-- the same list by another name
renamed : {n m : ℕ} {xs ys zs : List (List ℕ)} → n ≡ m → xs ≡ ys → take m ys ≡ zs → take n xs ≡ zs
renamed p q e = rw (p, q) e

pub loop-slot-preserved : goal.loop-slot-preserved
loop-slot-preserved c =
    let frame = c.args.frame.now in
    let x = c.args.layer in
    let n = c.loop-slot.slot in
    let within : n < length frame / 204 = omega (arith, c.loop-slot-test.true, c.slots_of-slot-end.ensures.value) in
    elim c.if-names.branch [
      | then-names w ↦ (let named : names_layer frame x n ≡ true = sym c.names.ensures ∙ w.if-names.true in
          record {
            count = w.next-is ∙ ap (λ k. k + 1) c.loop-slot.invariant.count ∙ sym (count-more frame x n named);
            most = (let e = w.next-is in omega (arith, e, c.loop-slot.invariant.most));
            taken = renamed w.next-is w.packets-is (packets-more frame x n c.loop-slot.next c.loop-slot.packets w.packet_of.result named
                (let place = has_place frame x n within named in omega (arith, place, c.requires.count, c.loop-slot.invariant.count, c.loop-slot.auto.packets))
                c.loop-slot.invariant.taken w.packet_of.ensures);
          })
      | else-names w ↦ (let other : names_layer frame x n ≡ false = sym c.names.ensures ∙ w.if-names.false in
          record {
            count = w.next-is ∙ c.loop-slot.invariant.count ∙ ap length (slots-same frame x n other);
            most = (let e = w.next-is in omega (arith, e, c.loop-slot.invariant.most));
            taken = renamed w.next-is w.packets-is (c.loop-slot.invariant.taken ∙ packets-same frame x n other);
          })
    ]

pub returns : goal.returns
returns c =
    packets-all c.args.frame.now c.args.layer c.loop-slot.next c.loop-slot.slot c.loop-slot.packets (omega (arith, c.loop-slot-test.false, c.loop-slot.auto.slot-end, c.slots_of-slot-end.ensures.value))
    (c.requires.count ∙ sym c.loop-slot.auto.packets) c.loop-slot.invariant.count c.loop-slot.invariant.taken
