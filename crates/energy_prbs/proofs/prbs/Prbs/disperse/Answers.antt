use Rattle.std.proofs.Common.{◌≡◌, ◌≢◌, ◌+◌, ◌<◌, length, get_or, bit_xor, arith, subst, ap, ◌∙◌, below_more, get_or-set_other, get_or-set_same}
use Rattle.energy_prbs.specs.StandsFor.{StandsFor}
use Rattle.energy_prbs.proofs.prbs.Prbs.disperse.Goals as goal

pub loop-i-preserved : goal.loop-i-preserved
loop-i-preserved c =
    let i = c.loop-i.i in
    let here : i < length c.loop-i.unit = omega arith in
    record {
      state = λ n stands. (let more : n + i + 1 ≡ n + (i + 1) = omega arith in
          subst (λ m. StandsFor c.next_byte.new.self m) more (c.next_byte.ensures.state (n + i) (c.loop-i.invariant.state n stands)));
      dispersed = λ n stands. below_more _ _
          (λ k below. let other : k ≢ i = omega arith in rw get_or-set_other (c.loop-i.invariant.dispersed n stands k below))
          (rw get_or-set_same (ap (λ x. bit_xor x c.next_byte.result) (c.loop-i.invariant.others i (omega arith)) ∙ ap (bit_xor (get_or c.args.unit.now i 0)) (c.next_byte.ensures.byte (n + i) (c.loop-i.invariant.state n stands))));
      others = λ k above. (let other : k ≢ i = omega arith in rw get_or-set_other (c.loop-i.invariant.others k (omega arith)));
    }

pub returns-clause-state : goal.returns-clause-state
returns-clause-state c = λ n stands.
    let all : n + c.loop-i.i + 1 ≡ n + 204 = omega arith in
    subst (λ m. StandsFor c.next_byte-2.new.self m) all (c.next_byte-2.ensures.state (n + c.loop-i.i) (c.loop-i.invariant.state n stands))
