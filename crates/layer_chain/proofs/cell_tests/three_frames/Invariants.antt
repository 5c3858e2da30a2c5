use Rattle.std.proofs.Common.{◌≡◌, ◌*◌, vec_len}
use Rattle.isdbt_base.specs.Numbers.{layer_cells}
use Rattle.layer_chain.specs.LayerCoder.{mode_of, layer_of}
use Rattle.layer_chain.proofs.cell_tests.three_frames.Given as goal

abbrev pub invariant-loop-frame : goal.invariant-loop-frame
invariant-loop-frame l = record {
  mode_is : mode_of l.coder ≡ l.fn.mode;
  layer_is : layer_of l.coder ≡ l.layer;
  room : vec_len l.out ≡ 204 * layer_cells l.fn.mode l.layer;
}
