use Rattle.std.proofs.Common.{◌≡◌, ◌+◌, ◌*◌, ◌-◌, ℕ, List, length, take, drop, ap, sym, ◌∙◌, subst, arith, refl}
use Rattle.isdbt_base.specs.Numbers.{carriers}
use Rattle.seg_receiver.specs.CellStream.{symbol_size}
use Rattle.seg_receiver.specs.Receiver.{IsSymbolOf}
use Rattle.seg_receiver.specs.EpochReceiver.{mode_of, segments_of, symbols_of}
use Rattle.seg_receiver.proofs.FrameParts.{cells-size}
use Rattle.seg_receiver.proofs.SymbolPlaces.{is-symbol}
use Rattle.seg_receiver.proofs.feeding.feed_held.Goals as goal

pub loop-k-init : goal.loop-k-init
loop-k-init c = record {
  symbols = c.requires.fresh;
  mode = refl;
  segments = refl;
  kept = λ partial m g s is. is;
  stands = λ cell start h stands shows. stands;
}

pub take_symbol-requires-clause-size : goal.take_symbol-requires-clause-size
take_symbol-requires-clause-size c =
    c.read_cells.auto.cells ∙ c.loop-k.auto.cells ∙ cells-size c.args.cells.now c.segments.result (segments_of c.args.receiver.now) c.carriers.result (carriers c.args.mode) c.segments.ensures.value c.carriers.ensures.value c.requires.room ∙ ap (λ m. segments_of c.args.receiver.now * carriers m) (sym (c.loop-k.invariant.mode ∙ c.requires.mode)) ∙ ap (λ n. n * carriers (mode_of c.loop-k.receiver)) (sym c.loop-k.invariant.segments)

pub take_symbol-requires-clause-few : goal.take_symbol-requires-clause-few
take_symbol-requires-clause-few c = (let e = c.loop-k.invariant.symbols in let less = c.loop-k-test.true in omega (arith, e, less))

-- the part of a frame from byte `from` on
part-of : (frame : List ℕ) (k from size n : ℕ) → from ≡ k * size → size ≡ n → take (from + size - from) (drop from frame) ≡ take n (drop (k * n) frame)
part-of frame k from size n start is =
    ap (λ m. take m (drop from frame)) (let e : from + size - from ≡ n = omega (arith, is) in e)
    ∙ ap (λ m. take n (drop m frame)) (start ∙ ap (λ m. k * m) is)

pub loop-k-preserved : goal.loop-k-preserved
loop-k-preserved c = record {
  symbols = c.take_symbol.ensures.symbols ∙ ap (λ n. n + 1) c.loop-k.invariant.symbols;
  mode = c.take_symbol.ensures.mode ∙ c.loop-k.invariant.mode;
  segments = c.take_symbol.ensures.segments ∙ c.loop-k.invariant.segments;
  kept = λ partial m g s is. c.take_symbol.ensures.kept partial m g s (c.loop-k.invariant.kept partial m g s is);
  stands = λ cell start h stands shows. (
      let mode = c.loop-k.invariant.mode ∙ c.requires.mode in
      let part = part-of c.args.frame.now c.loop-k.k c.symbol_start-from.result c.symbol_size-size.result (symbol_size c.args.mode) c.symbol_start-from.ensures.value c.symbol_size-size.ensures.value in
      let few = c.segments.ensures in
      let size : length c.read_cells.new.cells ≡ segments_of c.args.receiver.now * carriers c.args.mode = c.read_cells.auto.cells ∙ c.loop-k.auto.cells ∙ cells-size c.args.cells.now c.segments.result (segments_of c.args.receiver.now) c.carriers.result (carriers c.args.mode) c.segments.ensures.value c.carriers.ensures.value c.requires.room in
      let is = is-symbol (segments_of c.args.receiver.now) c.args.mode cell (start + h) c.loop-k.k c.args.frame.now _ c.read_cells.new.cells (let value = few.value in let most = few.most in omega (arith, value, most)) c.loop-k-test.true size part c.read_cells.ensures shows in
      c.take_symbol.ensures.state cell start h (c.loop-k.invariant.stands cell start h stands shows)
      (subst (λ m. IsSymbolOf m (mode_of c.loop-k.receiver) cell (start + h) (symbols_of c.loop-k.receiver) c.read_cells.new.cells) (sym c.loop-k.invariant.segments)
      (subst (λ n. IsSymbolOf (segments_of c.args.receiver.now) (mode_of c.loop-k.receiver) cell (start + h) n c.read_cells.new.cells) (sym c.loop-k.invariant.symbols)
      (subst (λ m. IsSymbolOf (segments_of c.args.receiver.now) m cell (start + h) c.loop-k.k c.read_cells.new.cells) (sym mode) is))));
}

pub returns : goal.returns
returns c = record {
  state = c.loop-k.invariant.stands;
  symbols = c.loop-k.invariant.symbols ∙ (let e : c.loop-k.k ≡ 204 = omega arith in e);
  kept = c.loop-k.invariant.kept;
}
