use Rattle.std.proofs.Common.{◌≡◌, ◌*◌, ◌≤◌, vec_len}
use Rattle.isdbt_base.specs.Numbers.{layer_cells, packets_per_frame}
use Rattle.layer_chain.specs.LayerCoder as coder
use Rattle.layer_chain.specs.LayerDecoder as decoder
use Rattle.layer_chain.proofs.decoder_tests.come_back.Given as goal

abbrev pub invariant-loop-frame : goal.invariant-loop-frame
invariant-loop-frame l = record {
  coder_mode : coder.mode_of l.coder ≡ l.fn.mode;
  coder_layer : coder.layer_of l.coder ≡ l.layer;
  decoder_mode : decoder.mode_of l.decoder ≡ l.fn.mode;
  decoder_layer : decoder.layer_of l.decoder ≡ l.layer;
  fresh : decoder.symbols_of l.decoder ≡ 0;
  cell_room : vec_len l.cells ≡ 204 * layer_cells l.fn.mode l.layer;
  few : vec_len l.cells ≤ 1018368;
  packet_room : vec_len l.out ≡ 188 * packets_per_frame l.fn.mode l.layer;
}
