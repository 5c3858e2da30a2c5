use Rattle.std.proofs.Common.{◌+◌, ◌∙◌, arith}
use Rattle.std.proofs.lemmas.Bool.{le-leb}
use Rattle.isdbt_base.specs.Numbers.{layer_delay}
use Rattle.seg_receiver.specs.Received.{segment_bits}
use Rattle.seg_receiver.specs.PartialReceiver.{mode_of, layer_of}
use Rattle.seg_receiver.proofs.PartialParts.{given-packets, same-stands, counts-on, counts-same}
use Rattle.seg_receiver.proofs.partial_receiver.PartialReceiver.frame.Goals as goal

pub returns-then-self-clause-state : goal.returns-then-self-clause-state
returns-then-self-clause-state c = λ cell start h stands.
    let self = c.args.self.now in
    let bits = segment_bits (mode_of self) (layer_of self) cell start in
    let short = c.if-self.true in
    let delay = self.delay_is in
    record {
      decoder = same-stands self.decoder c.take_frame.new.self cell start (h + 1) c.take_frame.ensures.mode c.take_frame.ensures.layer (c.take_frame.ensures.state bits h stands.decoder);
      counted = counts-on self.decoder c.take_frame.new.self self.frames h c.take_frame.ensures.mode c.take_frame.ensures.layer stands.counted (omega (arith, short, delay));
    }

pub returns-clause-packets : goal.returns-clause-packets
returns-clause-packets c = λ cell start h stands yes.
    let self = c.args.self.now in
    let bits = segment_bits (mode_of self) (layer_of self) cell start in
    let full = c.if-self.false in
    let delay = self.delay_is in
    let counted = stands.counted in
    given-packets (mode_of self) (layer_of self) cell start h c.take_frame-2.new.out (le-leb (layer_delay (mode_of self) (layer_of self)) h (omega (arith, full, delay, counted)))
    (c.take_frame-2.auto.out ∙ c.requires.room) (c.take_frame-2.ensures.packets bits h stands.decoder)

pub returns-clause-state : goal.returns-clause-state
returns-clause-state c = λ cell start h stands.
    let self = c.args.self.now in
    let bits = segment_bits (mode_of self) (layer_of self) cell start in
    let full = c.if-self.false in
    let delay = self.delay_is in
    record {
      decoder = same-stands self.decoder c.take_frame-2.new.self cell start (h + 1) c.take_frame-2.ensures.mode c.take_frame-2.ensures.layer (c.take_frame-2.ensures.state bits h stands.decoder);
      counted = counts-same self.decoder c.take_frame-2.new.self self.frames h c.take_frame-2.ensures.mode c.take_frame-2.ensures.layer stands.counted (omega (arith, full, delay));
    }
