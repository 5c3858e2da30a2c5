use Rattle.std.proofs.Common.{◌≡◌, ap, sym, ◌∙◌}
use Rattle.frame_order.specs.OrderedFrame.{ordered_frame}
use Rattle.frame_order.specs.LayerBytes.{layer_packet}
use Rattle.ts_packet.specs.Packets.{null_packet}
use Rattle.remux_core.specs.Frames.{frame_made}
use Rattle.remux_core.proofs.frame.write_frame.Goals as goal

pub returns-clause-ok : goal.returns-clause-ok
unfolding frame_made
returns-clause-ok g c =
    let e : frame_made c.args.plan.now c.args.order.now c.args.frame (layer_packet c.args.packets.now) ≡ c.write.new.out =
    sym (c.write.ensures ∙ ap (λ first. ordered_frame c.args.order.now.mode c.args.order.now.guard c.args.order.now.setting c.tag_of.result first (layer_packet c.args.packets.now)) c.null.ensures.value ∙ ap (λ tag. ordered_frame c.args.order.now.mode c.args.order.now.guard c.args.order.now.setting tag null_packet (layer_packet c.args.packets.now)) c.tag_of.ensures) in
    rw e c.write_whole.ensures.ok

pub returns-clause-some : goal.returns-clause-some
unfolding frame_made
returns-clause-some g c =
    let e : frame_made c.args.plan.now c.args.order.now c.args.frame (layer_packet c.args.packets.now) ≡ c.write.new.out =
    sym (c.write.ensures ∙ ap (λ first. ordered_frame c.args.order.now.mode c.args.order.now.guard c.args.order.now.setting c.tag_of.result first (layer_packet c.args.packets.now)) c.null.ensures.value ∙ ap (λ tag. ordered_frame c.args.order.now.mode c.args.order.now.guard c.args.order.now.setting tag null_packet (layer_packet c.args.packets.now)) c.tag_of.ensures) in
    rw e c.write_whole.ensures.some
