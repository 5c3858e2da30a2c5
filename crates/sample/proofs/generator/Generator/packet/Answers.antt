use Rattle.std.proofs.Common.{◌≡◌, ℕ, ◌+◌, ◌*◌, ◌-◌, ◌<◌, length, refl, arith, ap, sym, ◌∙◌}
use Rattle.std.proofs.Math.ListN.{length-set}
use Rattle.std.proofs.lemmas.List.{get_or-set_other}
use Rattle.sample.specs.Generator.{next_state, state_after, generated}
use Rattle.sample.proofs.Generated.{state_after-suc, generated-is, bytes_more, packet-is}
use Rattle.sample.proofs.generator.Generator.packet.Goals as goal

pub loop-k-init : goal.loop-k-init
loop-k-init c = record {
  size = refl;
  state = λ seed p is. is ∙ ap (state_after seed) (let e : 187 * p ≡ 187 * p + (1 - 1) = omega arith in e);
  first = refl;
  bytes = λ seed p is j least most. absurd (omega (arith, least, most));
}

-- the state behind byte k
state-next : (c : goal.After-byte) (seed p : ℕ) → c.args.self.now.state ≡ state_after seed (187 * p) → c.byte.new.self.state ≡ state_after seed (187 * p + c.loop-k.k)
state-next c seed p is =
    let least = c.loop-k.auto.k in
    c.byte.ensures.state ∙ ap next_state (c.loop-k.invariant.state seed p is)
    ∙ sym (state_after-suc seed (187 * p + (c.loop-k.k - 1)) (187 * p + c.loop-k.k) (omega (arith, least)))

pub loop-k-preserved : goal.loop-k-preserved
loop-k-preserved c =
    let now = c.loop-k.invariant in
    let k = c.loop-k.k in
    let least = c.loop-k.auto.k in
    let within : k < length c.loop-k.packet = (let size = now.size in let less = c.loop-k-test.true in omega (arith, size, less)) in
    record {
      size = length-set c.loop-k.packet k c.byte.result ∙ now.size;
      state = λ seed p is. state-next c seed p is ∙ ap (state_after seed) (let e : 187 * p + k ≡ 187 * p + (k + 1 - 1) = omega arith in e);
      first = get_or-set_other c.loop-k.packet k 0 c.byte.result 0 (λ e. omega (arith, e, least)) ∙ now.first;
      bytes = λ seed p is. bytes_more (λ j. generated seed (187 * p + (j - 1))) c.loop-k.packet k c.byte.result within (now.bytes seed p is)
          (c.byte.ensures.value ∙ generated-is seed (187 * p + (k - 1)) (187 * p + k) c.byte.new.self.state (state-next c seed p is) (omega (arith, least)));
    }

end : (c : goal.After-loop-k) → c.loop-k.k ≡ 188
end c = (let past = c.loop-k-test.false in let most = c.loop-k.auto.k-end in omega (arith, past, most))

pub returns-clause-packet : goal.returns-clause-packet
returns-clause-packet c = λ seed p is.
    let now = c.loop-k.invariant in
    let last = end c in
    packet-is seed p c.loop-k.packet now.size now.first (λ j least most. now.bytes seed p is j least (omega (arith, most, last)))

pub returns-clause-state : goal.returns-clause-state
returns-clause-state c = λ seed p is.
    let last = end c in
    c.loop-k.invariant.state seed p is ∙ ap (state_after seed) (let e : 187 * p + (c.loop-k.k - 1) ≡ 187 * (p + 1) = omega (arith, last) in e)
