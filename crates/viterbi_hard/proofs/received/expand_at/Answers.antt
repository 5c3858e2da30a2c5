use Rattle.std.proofs.Common.{◌≡◌, ◌+◌, ◌*◌, ◌≤◌, ◌∙◌, suc, arith, ap, false, get_or, inl, inr, sym}
use Rattle.std.proofs.Math.Nat.{eq-or-lt_of_le, mul-le-mul_left}
use Rattle.isdbt_base.specs.Numbers.{rate_bits, rate_steps}
use Rattle.viterbi_hard.specs.Steps.{read_of, step_at, received_from, sent_before}
use Rattle.viterbi_hard.proofs.received.expand_at.Goals as goal

pub loop-pattern-init : goal.loop-pattern-init
loop-pattern-init c = record { set = λ q j h k. absurd (omega arith) }

pub loop-pattern-preserved : goal.loop-pattern-preserved
loop-pattern-preserved c = record {
  set = λ q j h k.
      let place : rate_steps c.args.rate * c.loop-pattern.pattern ≡ c.rate_pair-pattern_steps.result.0 * c.loop-pattern.pattern = ap (λ m. m * c.loop-pattern.pattern) (sym c.rate_pair-pattern_steps.ensures.steps) in
      let from : c.args.at + c.rate_pair-pattern_steps.result.1 * c.loop-pattern.pattern ≡ c.args.at + rate_bits c.args.rate * c.loop-pattern.pattern = ap (λ m. c.args.at + m * c.loop-pattern.pattern) c.rate_pair-pattern_steps.ensures.bits in
      let upto : q ≤ c.loop-pattern.pattern = omega arith in
      elim (eq-or-lt_of_le upto) [
        | inl e ↦
            ap (λ m. step_at c.expand_pattern.new.steps (rate_steps c.args.rate * m + j)) e
            ∙ ap (λ m. step_at c.expand_pattern.new.steps (m + j)) place
            ∙ c.expand_pattern.ensures.steps j k
            ∙ ap (λ a. received_from c.args.rate (λ i. get_or c.args.bits.now i false) (a + sent_before c.args.rate j) j) from
            ∙ ap (λ m. received_from c.args.rate (λ i. get_or c.args.bits.now i false) (c.args.at + rate_bits c.args.rate * m + sent_before c.args.rate j) j) (sym e)
        | inr l ↦
            let next : suc q ≤ c.loop-pattern.pattern = omega arith in
            ap read_of (c.expand_pattern.ensures.others (rate_steps c.args.rate * q + j) (omega (arith, place, mul-le-mul_left (rate_steps c.args.rate) next)))
            ∙ c.loop-pattern.invariant.set q j l k
      ];
}

pub returns : goal.returns
returns c = λ q j h k. c.loop-pattern.invariant.set q j (omega (arith, c.loop-pattern-test.false)) k
