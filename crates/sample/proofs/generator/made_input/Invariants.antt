use Rattle.std.proofs.Common.{◌≡◌, vec_items, ◌*◌, take}
use Rattle.std.specs.Prelude.{vec_len}
use Rattle.isdbt_base.specs.Outcome.{product}
use Rattle.sample.specs.Generator.{made_packet, state_after}
use Rattle.sample.proofs.generator.made_input.Given as goal

abbrev pub invariant-loop-p : goal.invariant-loop-p
invariant-loop-p l = record {
  end : l.end ≡ 188 * l.p;
  size : vec_len l.bytes ≡ 188 * l.fn.count;
  state : l.generator.state ≡ state_after l.fn.seed (187 * l.p);
  bytes : take l.end (vec_items l.bytes) ≡ product (made_packet l.fn.seed) l.p;
}
