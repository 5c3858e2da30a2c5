use Rattle.std.proofs.Common.{◌≡◌, ℕ, ◌+◌, ◌*◌, ◌++◌, Bool, false, List, get_or, sym, ap, ◌∙◌, arith}
use Rattle.std.proofs.lemmas.List.{take_all}
use Rattle.std.proofs.Math.Nat.{mul-add}
use Rattle.isdbt_base.specs.Numbers.{carriers}
use Rattle.cell_map.specs.declared.cell.Cell.{Cell}
use Rattle.coder_core.specs.LayerPart.{symbol_cells}
use Rattle.coder_core.specs.Symbols.{layers_symbol, first_symbols}
use Rattle.coder_core.proofs.FrameSymbols.{first_symbols-zero, first_symbols-more, part_cells-all, symbol-fits}
use Rattle.coder_core.proofs.coder.Coder.write.Goals as goal

pub loop-k-init : goal.loop-k-init
loop-k-init c = record {
  room = c.requires;
  at = omega arith;
  bytes = sym (first_symbols-zero c.args.word.now (symbol_cells c.args.self.now.a) (symbol_cells c.args.self.now.b) (symbol_cells c.args.self.now.c));
}

pub put_symbol-at-requires : goal.put_symbol-at-requires
put_symbol-at-requires c =
    let self = c.args.self.now in
    let all = part_cells-all self.mode self.setting self.a self.b self.c c.acceptance_law.ensures self.a_mode self.b_mode self.c_mode self.a_layer self.b_layer self.c_layer in
    let fits = symbol-fits (1 + 26 * carriers self.mode) c.loop-k.k c.loop-k-test.true in
    omega (arith, all, fits, c.symbol-a.ensures.size, c.symbol-b.ensures.size, c.symbol-c.ensures.size, c.loop-k.invariant.at, c.loop-k.invariant.room)

-- a symbol more, by the values that the calls gave
more : (word : List Bool) (a b c : ℕ → List Cell) (k : ℕ) (before x y z : _) → before ≡ first_symbols word a b c k → x ≡ a k → y ≡ b k → z ≡ c k
    → before ++ layers_symbol (get_or word k false) x y z ≡ first_symbols word a b c (k + 1)
more word a b c k before x y z p xa yb zc = rw (p, xa, yb, zc) (first_symbols-more word a b c k)

pub loop-k-preserved : goal.loop-k-preserved
loop-k-preserved c =
    let self = c.args.self.now in
    let size = 1 + 26 * carriers self.mode in
    let all = part_cells-all self.mode self.setting self.a self.b self.c c.acceptance_law.ensures self.a_mode self.b_mode self.c_mode self.a_layer self.b_layer self.c_layer in
    record {
      room = omega (arith, c.loop-k.invariant.room, c.put_symbol-at.auto.out);
      at = (let e = mul-add size c.loop-k.k 1 in
          omega (arith, e, all, c.put_symbol-at.ensures.end, c.symbol-a.ensures.size, c.symbol-b.ensures.size, c.symbol-c.ensures.size, c.loop-k.invariant.at));
      bytes = c.put_symbol-at.ensures.bytes ∙ more c.args.word.now (symbol_cells self.a) (symbol_cells self.b) (symbol_cells self.c) c.loop-k.k _ _ _ _ c.loop-k.invariant.bytes c.symbol-a.ensures.value c.symbol-b.ensures.value c.symbol-c.ensures.value;
    }

pub returns : goal.returns
returns c =
    let self = c.args.self.now in
    let end : c.loop-k.k ≡ 204 = omega arith in
    let size = 1 + 26 * carriers self.mode in
    let at : c.loop-k.at ≡ 204 * size = c.loop-k.invariant.at ∙ ap (λ k. size * k) end ∙ omega arith in
    sym (take_all c.loop-k.at c.loop-k.out (omega (arith, at, c.loop-k.invariant.room))) ∙ c.loop-k.invariant.bytes
    ∙ ap (first_symbols c.args.word.now (symbol_cells self.a) (symbol_cells self.b) (symbol_cells self.c)) end
