use Rattle.std.proofs.Common.{sym, subst, arith}
use Rattle.std.proofs.lemmas.List.{with_items_is}
use Rattle.seg_receiver.specs.UsedDecoders.{ArePacketsOf}
use Rattle.seg_receiver.proofs.DecoderParts.{part-packets, part-frame}
use Rattle.seg_receiver.proofs.decoder_part.DecoderPart.take_frame.Goals as goal

pub returns-clause-packets : goal.returns-clause-packets
returns-clause-packets c = λ cell start first h stands.
    let self = c.args.self.now in
    let bytes = c.take_packets.new.bytes in
    subst (ArePacketsOf self.mode self.layer cell start first h) (sym (with_items_is self.bytes bytes (omega arith)))
    (part-packets self.mode self.layer self.symbols self.decoder c.take_packets.new.decoder bytes cell start first h self.fits c.take_packets.ensures stands)

pub returns-clause-state : goal.returns-clause-state
returns-clause-state c = λ cell start first h stands.
    let self = c.args.self.now in
    part-frame self.mode self.layer self.decoder c.take_packets.new.decoder c.take_packets.new.bytes cell start first h c.take_packets.ensures stands
