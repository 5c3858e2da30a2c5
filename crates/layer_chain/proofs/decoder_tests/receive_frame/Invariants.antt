use Rattle.std.proofs.Common.{◌≡◌}
use Rattle.layer_chain.specs.LayerDecoder.{mode_of, layer_of, symbols_of}
use Rattle.layer_chain.proofs.decoder_tests.receive_frame.Given as goal

abbrev pub invariant-loop-k : goal.invariant-loop-k
invariant-loop-k l = record {
  symbols : symbols_of l.decoder ≡ l.k;
  mode : mode_of l.decoder ≡ mode_of l.initial.decoder;
  layer : layer_of l.decoder ≡ layer_of l.initial.decoder;
}
