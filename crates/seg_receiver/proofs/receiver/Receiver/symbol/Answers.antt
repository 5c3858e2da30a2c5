use Rattle.std.proofs.Common.{ℕ, ◌+◌, List, ◌≡◌, sym, subst}
use Rattle.isdbt_base.specs.declared.kinds.Mode.{Mode}
use Rattle.isdbt_base.specs.declared.kinds.Layer.TheVariants.{A, B, C}
use Rattle.isdbt_base.specs.Numbers.{first_segment}
use Rattle.cell_map.specs.declared.cell.Cell.{Cell}
use Rattle.seg_receiver.specs.CellStream.{FrameCells}
use Rattle.seg_receiver.specs.UsedDecoders.{AreCellsFrom}
use Rattle.seg_receiver.specs.declared.decoder_part.DecoderPart.{DecoderPart}
use Rattle.seg_receiver.proofs.receiver.Receiver.symbol.Goals as goal

-- cells of a symbol of the receiver are those of the same symbol of a part
for_part : (mode : Mode) (p : DecoderPart) (cell : FrameCells) (first f k : ℕ) (cells : List Cell) → p.mode ≡ mode → p.symbols ≡ k → AreCellsFrom mode cell first f k cells → AreCellsFrom p.mode cell first f p.symbols cells
for_part mode p cell first f k cells m e are = subst (λ y. AreCellsFrom y cell first f p.symbols cells) (sym m) (subst (λ n. AreCellsFrom mode cell first f n cells) (sym e) are)

pub returns-clause-state : goal.returns-clause-state
returns-clause-state c = λ cell start h stands is.
    let self = c.args.self.now in
    let s = self.setting in
    record {
      a_stands = c.symbol.ensures.state cell start (first_segment s A) h stands.a_stands
          (for_part self.mode self.a cell (first_segment s A) (start + h) self.symbols c.layer_part-a.result.now self.a_mode self.a_symbols (c.layer_part-a.ensures.cells cell (start + h) self.symbols is));
      b_stands = c.symbol-2.ensures.state cell start (first_segment s B) h stands.b_stands
          (for_part self.mode self.b cell (first_segment s B) (start + h) self.symbols c.layer_part-b.result.now self.b_mode self.b_symbols (c.layer_part-b.ensures.cells cell (start + h) self.symbols is));
      c_stands = c.symbol-3.ensures.state cell start (first_segment s C) h stands.c_stands
          (for_part self.mode self.c cell (first_segment s C) (start + h) self.symbols c.layer_part-c.result.now self.c_mode self.c_symbols (c.layer_part-c.ensures.cells cell (start + h) self.symbols is));
    }
