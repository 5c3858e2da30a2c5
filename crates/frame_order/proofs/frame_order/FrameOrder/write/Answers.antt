use Rattle.std.proofs.Common.{◌≡◌, ◌∙◌, ap, refl, sym, arith}
use Rattle.std.proofs.lemmas.List.{take_all}
use Rattle.isdbt_base.specs.Numbers.{slots_per_frame}
use Rattle.frame_order.specs.LayerBytes.{layer_packet}
use Rattle.frame_order.proofs.FrameBytes.{first_slots, first_slots-zero, first_slots-more, first_slots-all}
use Rattle.frame_order.proofs.frame_order.FrameOrder.write.Goals as goal

pub loop-slot-init : goal.loop-slot-init
loop-slot-init c = record {
  room = c.requires.room;
  null = c.null-null.ensures.value;
  at = refl;
  bytes = sym (first_slots-zero c.args.self.now.mode c.args.self.now.guard c.args.self.now.setting c.args.tag.now c.args.first.now (layer_packet c.args.packets.now));
}

pub loop-slot-preserved : goal.loop-slot-preserved
loop-slot-preserved c = record {
  room = omega arith;
  null = c.null-null.ensures.value;
  at = omega arith;
  bytes = rw (c.put-at-in-loop-slot.ensures.items, c.put-at.ensures.items, c.put_packet-at.ensures.bytes, c.loop-slot.invariant.bytes, c.to_bytes-info.ensures.value, c.info_of.ensures, c.layer_of.ensures, c.mark-mark.ensures.value)
      (first_slots-more c.args.self.now.mode c.args.self.now.guard c.args.self.now.setting c.args.tag.now c.args.first.now (layer_packet c.args.packets.now) c.loop-slot.slot);
}

pub returns : goal.returns
returns c =
    let end : c.loop-slot.slot ≡ slots_per_frame c.args.self.now.mode c.args.self.now.guard = omega arith in
    sym (take_all c.loop-slot.at c.loop-slot.out (omega arith)) ∙ c.loop-slot.invariant.bytes
    ∙ ap (first_slots c.args.self.now.mode c.args.self.now.guard c.args.self.now.setting c.args.tag.now c.args.first.now (layer_packet c.args.packets.now)) end
    ∙ first_slots-all c.args.self.now.mode c.args.self.now.guard c.args.self.now.setting c.args.tag.now c.args.first.now (layer_packet c.args.packets.now)
