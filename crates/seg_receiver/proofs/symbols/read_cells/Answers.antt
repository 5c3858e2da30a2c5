use Rattle.std.proofs.Common.{◌≡◌, ◌+◌, ◌*◌, ◌<◌, ℕ, List, set, length, ap, ◌∙◌, arith, get_or, Some}
use Rattle.std.specs.Prelude.{pos}
use Rattle.std.proofs.lemmas.List.Edits.{fill_by_more}
use Rattle.std.proofs.lemmas.Option.{slice_get-get_or}
use Rattle.cell_map.specs.declared.cell.Cell.{Cell}
use Rattle.seg_receiver.specs.FrameReading.{cell_at}
use Rattle.seg_receiver.proofs.symbols.read_cells.Goals as goal

abbrev zero_cell : Cell
zero_cell = record { i = pos 0; q = pos 0 }

one-more : (f : ℕ → Cell) (xs : List Cell) (i : ℕ) (y : Cell) → y ≡ f i → i < length xs → ((k : ℕ) → k < i → get_or xs k zero_cell ≡ f k) → (k : ℕ) → k < i + 1 → get_or (set xs i y) k zero_cell ≡ f k
one-more f xs i y is less before k below = ap (λ z. get_or (set xs i z) k zero_cell) is ∙ fill_by_more f xs i zero_cell less before k below

pub loop-n-preserved : goal.loop-n-preserved
loop-n-preserved c =
    one-more (λ m. cell_at c.args.symbol.now (1 + 2 * m)) c.loop-n.cells c.loop-n.n c.cell_at.result c.cell_at.ensures (omega arith) c.loop-n.invariant

pub returns : goal.returns
returns c = record {
  each = λ m less. slice_get-get_or c.loop-n.cells m zero_cell less ∙ ap Some (c.loop-n.invariant m (omega (arith, less)));
}
