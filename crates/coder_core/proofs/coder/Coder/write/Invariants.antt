use Rattle.std.proofs.Common.{◌≡◌, ◌+◌, ◌*◌, length, take}
use Rattle.isdbt_base.specs.Numbers.{carriers}
use Rattle.coder_core.specs.SentCells.{frame_size}
use Rattle.coder_core.specs.LayerPart.{symbol_cells}
use Rattle.coder_core.specs.Symbols.{first_symbols}
use Rattle.coder_core.proofs.coder.Coder.write.Given as goal

abbrev pub invariant-loop-k : goal.invariant-loop-k
invariant-loop-k l = record {
  room : length l.out ≡ frame_size l.self.mode;
  at : l.at ≡ (1 + 26 * carriers l.self.mode) * l.k;
  bytes : take l.at l.out ≡ first_symbols l.word (symbol_cells l.self.a) (symbol_cells l.self.b) (symbol_cells l.self.c) l.k;
}
