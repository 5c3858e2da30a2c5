use Rattle.std.proofs.Common.{arith}
use Rattle.seg_receiver.specs.Received.{segment_bits}
use Rattle.layer_chain.specs.LayerDecoder as layer
use Rattle.seg_receiver.proofs.partial_receiver.PartialReceiver.open.Goals as goal

pub returns-clause-state : goal.returns-clause-state
returns-clause-state c = λ cell start.
    let s = c.in_ok-decoder.decoder in
    record { decoder = (c.in_ok-decoder.ensures {u = tt}).state (segment_bits (layer.mode_of s) (layer.layer_of s) cell start); counted = omega arith }
