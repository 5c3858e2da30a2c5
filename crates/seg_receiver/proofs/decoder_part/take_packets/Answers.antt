use Rattle.std.proofs.Common.{Some, sym, subst}
use Rattle.seg_receiver.specs.UsedDecoders.{GivesIfUsed}
use Rattle.seg_receiver.proofs.decoder_part.take_packets.Goals as goal

pub returns-in-Some : goal.returns-in-Some
returns-in-Some c = subst (λ o. GivesIfUsed o (Some c.take_frame.new.self) c.take_frame.new.out) (sym c.in-Some.is) (record {
  given = c.take_frame.ensures.packets;
  state = c.take_frame.ensures.state;
  symbols = c.take_frame.ensures.symbols;
  same_mode = c.take_frame.ensures.mode;
  same_layer = c.take_frame.ensures.layer;
})
