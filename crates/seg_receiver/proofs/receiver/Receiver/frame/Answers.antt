use Rattle.std.proofs.Common.{◌∙◌, ap}
use Rattle.isdbt_base.specs.declared.kinds.Layer.TheVariants.{A, B, C}
use Rattle.ts_packet.specs.Packets.{null_packet}
use Rattle.isdbt_base.specs.Numbers.{first_segment}
use Rattle.frame_order.specs.declared.layer_packets.LayerPackets.{LayerPackets}
use Rattle.frame_order.specs.LayerBytes.{layer_packet}
use Rattle.frame_order.specs.OrderedFrame.{ordered_frame}
use Rattle.seg_receiver.proofs.ReceivedParts.{gives_layer, frame-given}
use Rattle.seg_receiver.proofs.receiver.Receiver.frame.Goals as goal

pub returns-clause-frame : goal.returns-clause-frame
returns-clause-frame c = λ cell start h stands.
    let self = c.args.self.now in
    let s = self.setting in
    let mode = self.mode in
    let a = gives_layer mode s A c.take_frame.new.self cell start h c.bytes.result.now (c.take_frame.ensures.mode ∙ self.a_mode) (c.take_frame.ensures.layer ∙ self.a_layer) c.bytes.ensures.value (c.take_frame.ensures.packets cell start (first_segment s A) h stands.a_stands) in
    let b = gives_layer mode s B c.take_frame-2.new.self cell start h c.bytes-2.result.now (c.take_frame-2.ensures.mode ∙ self.b_mode) (c.take_frame-2.ensures.layer ∙ self.b_layer) c.bytes-2.ensures.value (c.take_frame-2.ensures.packets cell start (first_segment s B) h stands.b_stands) in
    let d = gives_layer mode s C c.take_frame-3.new.self cell start h c.bytes-3.result.now (c.take_frame-3.ensures.mode ∙ self.c_mode) (c.take_frame-3.ensures.layer ∙ self.c_layer) c.bytes-3.ensures.value (c.take_frame-3.ensures.packets cell start (first_segment s C) h stands.c_stands) in
    let packets : LayerPackets = record { a = c.bytes.result; b = c.bytes-2.result; c = c.bytes-3.result } in
    c.write.ensures
    ∙ ap (λ first. ordered_frame self.order.mode self.order.guard self.order.setting c.args.tag.now first (layer_packet packets)) c.null.ensures.value
    ∙ ap (λ m. ordered_frame m self.order.guard self.order.setting c.args.tag.now null_packet (layer_packet packets)) self.order_mode
    ∙ ap (λ g. ordered_frame mode g self.order.setting c.args.tag.now null_packet (layer_packet packets)) self.order_guard
    ∙ ap (λ t. ordered_frame mode self.guard t c.args.tag.now null_packet (layer_packet packets)) self.order_setting
    ∙ frame-given mode self.guard s c.args.tag.now packets cell start h a b d

pub returns-clause-state : goal.returns-clause-state
returns-clause-state c = λ cell start h stands.
    let s = c.args.self.now.setting in
    record {
      a_stands = c.take_frame.ensures.state cell start (first_segment s A) h stands.a_stands;
      b_stands = c.take_frame-2.ensures.state cell start (first_segment s B) h stands.b_stands;
      c_stands = c.take_frame-3.ensures.state cell start (first_segment s C) h stands.c_stands;
    }
