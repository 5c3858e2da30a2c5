use Rattle.seg_receiver.specs.Received.{segment_bits}
use Rattle.seg_receiver.specs.PartialReceiver.{mode_of, layer_of, symbols_of}
use Rattle.seg_receiver.proofs.PartialParts.{segment-symbol, same-stands, same-delay}
use Rattle.seg_receiver.proofs.partial_receiver.PartialReceiver.symbol.Goals as goal

pub returns-clause-state : goal.returns-clause-state
returns-clause-state c = λ cell start h stands are.
    let self = c.args.self.now in
    let bits = segment_bits (mode_of self) (layer_of self) cell start in
    let is = segment-symbol (mode_of self) (layer_of self) cell start h (symbols_of self) c.args.cells.now c.requires.few c.requires.size are in
    record {
      decoder = same-stands self.decoder c.symbol.new.self cell start h c.symbol.ensures.mode c.symbol.ensures.layer (c.symbol.ensures.state bits h stands.decoder is);
      counted = same-delay self.decoder c.symbol.new.self self.frames h c.symbol.ensures.mode c.symbol.ensures.layer stands.counted;
    }
