use Rattle.std.proofs.Common.{◌≡◌, ◌≤◌, length}
use Rattle.std.specs.Prelude.{filter}
use Rattle.std.specs.List.{range_with_len}
use Rattle.bts_info.specs.Information.{layer_named}
use Rattle.coder_core.specs.FrameChecks.{information_in, same_layer}
use Rattle.coder_core.proofs.check.layer_count.Given as goal

abbrev pub invariant-loop-slot : goal.invariant-loop-slot
invariant-loop-slot l = record {
  counted : l.count ≡ length (filter (λ slot. same_layer l.layer (layer_named (information_in l.frame slot))) (range_with_len 0 l.slot));
  most : l.count ≤ l.slot;
}
