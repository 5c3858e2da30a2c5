use Rattle.std.proofs.Common.{Some, sym, subst}
use Rattle.seg_receiver.specs.UsedDecoders.{TakesIfUsed}
use Rattle.seg_receiver.proofs.decoder_part.take_symbol.Goals as goal

pub returns-in-Some : goal.returns-in-Some
returns-in-Some c = subst (λ o. TakesIfUsed o c.args.cells.now (Some c.symbol.new.self)) (sym c.in-Some.is) (record {
  state = c.symbol.ensures.state;
  symbols = c.symbol.ensures.symbols;
  same_mode = c.symbol.ensures.mode;
  same_layer = c.symbol.ensures.layer;
})
