use Rattle.std.proofs.Common.{◌*◌, ap, ◌∙◌, arith}
use Rattle.isdbt_base.specs.Numbers.{layer_cells, cell_bits}
use Rattle.bit_inter.specs.Layouts.{deinter_layout}
use Rattle.time_inter.specs.LayerPartner as time
use Rattle.layer_chain.specs.BitDeinterleaver as bit
use Rattle.layer_chain.specs.SymbolReader.{bits_of_symbol, cell_stream, late_stream, bit_stream}
use Rattle.layer_chain.proofs.StageFrames.{new_stage}
use Rattle.layer_chain.proofs.symbol_reader.SymbolReader.open.Goals as goal

pub returns-clause-state : goal.returns-clause-state
returns-clause-state c = λ cell.
    let mode = c.args.mode in
    let l = c.args.setting.now in
    let n = layer_cells mode l in
    let late = bit_stream (cell_bits l.modulation) (late_stream mode l cell) in
    record {
      cell_layout = c.in_ok-cells.ensures.layout;
      cells_stand = new_stage (time.layout_of c.in_ok-cells.cells) (cell_stream n cell) (n * 0) (time.held_of c.in_ok-cells.cells) c.in_ok-cells.ensures.stands (omega arith);
      bit_layout = c.in_ok-bits.ensures.layout ∙ ap (λ m. deinter_layout (cell_bits m)) c.modulation-modulation.ensures;
      bits_stand = new_stage (bit.layout_of c.in_ok-bits.bits) late (bits_of_symbol mode l * 0) (bit.held_of c.in_ok-bits.bits) c.in_ok-bits.ensures.stands (omega arith);
    }
