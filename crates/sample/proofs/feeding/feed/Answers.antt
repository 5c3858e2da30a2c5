use Rattle.std.proofs.Common.{◌≡◌, ◌+◌, ◌*◌, ◌-◌, ℕ, List, length, take, drop, ap, sym, ◌∙◌, subst, arith, refl}
use Rattle.isdbt_base.specs.declared.kinds.Mode.TheVariants.{M1}
use Rattle.isdbt_base.specs.Numbers.{carriers}
use Rattle.seg_receiver.specs.CellStream.{symbol_size}
use Rattle.seg_receiver.specs.Receiver.{mode_of, symbols_of, IsSymbolOf}
use Rattle.seg_receiver.proofs.SymbolPlaces.{is-symbol}
use Rattle.sample.specs.SpoiledCells.{spoiled}
use Rattle.sample.proofs.feeding.feed.Goals as goal

pub loop-k-init : goal.loop-k-init
loop-k-init c = record {
  symbols = c.requires.fresh;
  mode = refl;
  guard = refl;
  setting = refl;
  stands = λ cell start h is turns stands shows. stands;
}

pub symbol-requires-clause-size : goal.symbol-requires-clause-size
symbol-requires-clause-size c =
    c.spoil.auto.cells ∙ c.read_cells.auto.cells ∙ c.loop-k.auto.cells ∙ c.requires.room ∙ ap (λ m. 13 * carriers m) (sym (c.loop-k.invariant.mode ∙ c.requires.mode))

pub symbol-requires-clause-few : goal.symbol-requires-clause-few
symbol-requires-clause-few c = (let e = c.loop-k.invariant.symbols in let less = c.loop-k-test.true in omega (arith, e, less))

-- the part of the symbols from byte `from` on
part-of : (symbols : List ℕ) (k from size n : ℕ) → from ≡ k * size → size ≡ n → take (from + size - from) (drop from symbols) ≡ take n (drop (k * n) symbols)
part-of symbols k from size n start is =
    ap (λ m. take m (drop from symbols)) (let e : from + size - from ≡ n = omega (arith, is) in e)
    ∙ ap (λ m. take n (drop m symbols)) (start ∙ ap (λ m. k * m) is)

pub loop-k-preserved : goal.loop-k-preserved
loop-k-preserved c =
    let now = c.loop-k.invariant in
    let k = c.loop-k.k in
    record {
      symbols = c.symbol.ensures.symbols ∙ ap (λ n. n + 1) now.symbols;
      mode = c.symbol.ensures.mode ∙ now.mode;
      guard = c.symbol.ensures.guard ∙ now.guard;
      setting = c.symbol.ensures.setting ∙ now.setting;
      stands = λ cell start h at turns stands shows. (
          let part = part-of c.args.symbols.now k c.symbol_start-from.result c.symbol_size-size.result (symbol_size M1) c.symbol_start-from.ensures.value c.symbol_size-size.ensures.value in
          let size : length c.read_cells.new.cells ≡ 13 * carriers M1 = c.read_cells.auto.cells ∙ c.loop-k.auto.cells ∙ c.requires.room in
          let is = is-symbol 13 M1 cell c.args.frame k c.args.symbols.now _ c.read_cells.new.cells (omega arith) c.loop-k-test.true size part c.read_cells.ensures shows in
          c.symbol.ensures.state (spoiled cell) start h (now.stands cell start h at turns stands shows)
          (subst (λ f. IsSymbolOf 13 (mode_of c.loop-k.receiver) (spoiled cell) f (symbols_of c.loop-k.receiver) c.spoil.new.cells) (sym at)
          (subst (λ n. IsSymbolOf 13 (mode_of c.loop-k.receiver) (spoiled cell) c.args.frame n c.spoil.new.cells) (sym now.symbols)
          (subst (λ m. IsSymbolOf 13 m (spoiled cell) c.args.frame k c.spoil.new.cells) (sym (now.mode ∙ c.requires.mode)) (c.spoil.ensures cell (turns k) is)))));
    }

pub returns : goal.returns
returns c = record {
  state = c.loop-k.invariant.stands;
  symbols = c.loop-k.invariant.symbols ∙ (let e : c.loop-k.k ≡ 204 = omega arith in e);
  mode = c.loop-k.invariant.mode;
  guard = c.loop-k.invariant.guard;
  setting = c.loop-k.invariant.setting;
}
