use Rattle.std.proofs.Common.{◌+◌, ◌-◌, ◌≤◌, arith, ap, ◌∙◌}
use Rattle.viterbi_hard.specs.LeastPath.{decided_bit}
use Rattle.layer_chain.specs.DecidedBytes.{rate_of, decided_byte}
use Rattle.layer_chain.proofs.decided_bytes.DecidedBytes.take_frame.Goals as goal

pub returns-clause-state : goal.returns-clause-state
returns-clause-state c = λ read steps first stands some.
    let s = c.args.self.now in
    let e = c.saturating_sub-self.ensures in
    let few = c.args.self.now.few_pending in
    let whole : c.args.self.now.frame ≤ c.args.self.now.filled = omega (arith, stands.count, few, some) in
    let copied = c.copy_within.ensures.by_index in
    record {
      decoder_stands = stands.decoder_stands;
      count = omega (arith, stands.count, few, some, c.saturating_sub-self.ensures);
      bytes_are = λ i h. copied.0 i 0 (omega arith) (omega (arith, h, e)) ∙ stands.bytes_are (s.frame + (i - 0)) (omega (arith, h, e)) ∙ ap (decided_byte (rate_of s) read) (omega arith);
      bits_are = λ i h. stands.bits_are i h ∙ ap (decided_bit (rate_of s) read) (omega (arith, e));
    }
