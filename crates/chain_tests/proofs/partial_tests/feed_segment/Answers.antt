use Rattle.std.proofs.Common.{◌≡◌, ◌+◌, ap, sym, ◌∙◌, arith}
use Rattle.isdbt_base.specs.Numbers.{carriers}
use Rattle.chain_tests.proofs.partial_tests.feed_segment.Goals as goal

pub loop-k-init : goal.loop-k-init
loop-k-init c = record {
  symbols = c.requires.fresh;
  mode = c.requires.mode;
}

pub loop-k-preserved : goal.loop-k-preserved
loop-k-preserved c = record {
  symbols = c.symbol.ensures.symbols ∙ ap (λ n. n + 1) c.loop-k.invariant.symbols;
  mode = c.symbol.ensures.mode ∙ c.loop-k.invariant.mode;
}

pub symbol-requires-clause-size : goal.symbol-requires-clause-size
symbol-requires-clause-size c = c.segment_cells-cells.ensures ∙ sym (ap carriers c.loop-k.invariant.mode)

pub symbol-requires-clause-few : goal.symbol-requires-clause-few
symbol-requires-clause-few c = (let e = c.loop-k.invariant.symbols in let less = c.loop-k-test.true in omega (arith, e, less))

pub returns-clause-symbols : goal.returns-clause-symbols
returns-clause-symbols c = c.loop-k.invariant.symbols ∙ (let e : c.loop-k.k ≡ 204 = omega arith in e)
