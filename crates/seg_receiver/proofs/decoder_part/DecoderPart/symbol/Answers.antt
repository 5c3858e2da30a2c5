use Rattle.seg_receiver.proofs.DecoderParts.{part-symbol}
use Rattle.seg_receiver.proofs.decoder_part.DecoderPart.symbol.Goals as goal

pub returns-clause-state : goal.returns-clause-state
returns-clause-state c = λ cell start first h stands are.
    let self = c.args.self.now in
    part-symbol self.mode self.layer self.symbols self.decoder c.take_symbol.new.decoder c.args.cells.now cell start first h self.fits c.take_symbol.ensures c.requires.few are stands
