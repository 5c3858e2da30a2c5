use Rattle.std.proofs.Common.{◌≡◌, ◌≢◌, ◌+◌, ◌<◌, ◌≤◌, ◌∙◌, suc, arith, false, get_or, set, length, refl, sym, ap, add-zero, get_or-set_same, get_or-set_other, inl, inr}
use Rattle.std.proofs.Math.Nat.{eq-or-lt_of_le}
use Rattle.isdbt_base.specs.Numbers.{rate_steps}
use Rattle.viterbi_hard.specs.Steps.{read_of, step_at, received_from, sent_before}
use Rattle.viterbi_hard.proofs.FeedLaws.{at-fits}
use Rattle.viterbi_hard.proofs.received.expand_pattern.Goals as goal

pub loop-step-init : goal.loop-step-init
loop-step-init c = record { next = sym (add-zero c.args.at); set = λ j h. absurd (omega arith); others = λ i h. refl }

pub received_step-received-requires : goal.received_step-received-requires
received_step-received-requires c =
    let low : c.loop-step.step < rate_steps c.args.rate = omega (arith, c.rate_pair-count.ensures.steps) in
    omega (arith, at-fits c.args.rate c.args.at c.loop-step.step c.loop-step.next c.loop-step.invariant.next low, c.requires.bits)

pub overflow_add-next : goal.overflow_add-next
overflow_add-next c =
    let low : c.loop-step.step < rate_steps c.args.rate = omega (arith, c.rate_pair-count.ensures.steps) in
    record { fits = omega (arith, at-fits c.args.rate c.args.at c.loop-step.step c.loop-step.next c.loop-step.invariant.next low, c.requires.bits, c.used-next.ensures) }

pub loop-step-preserved : goal.loop-step-preserved
loop-step-preserved c =
    let low : c.loop-step.step < rate_steps c.args.rate = omega (arith, c.rate_pair-count.ensures.steps) in
    let within : c.args.first + c.loop-step.step < length c.loop-step.steps = omega (arith, c.requires.room, c.loop-step.auto.steps, low) in
    record {
      next = (let one : suc c.loop-step.step ≡ c.loop-step.step + 1 = omega arith in
          let sum : c.loop-step.next + c.used-next.result ≡ c.args.at + sent_before c.args.rate (suc c.loop-step.step) = omega (arith, c.loop-step.invariant.next, c.used-next.ensures) in
          sum ∙ ap (λ k. c.args.at + sent_before c.args.rate k) one);
      set = λ j h.
          let upto : j ≤ c.loop-step.step = omega arith in
          elim (eq-or-lt_of_le upto) [
            | inl e ↦
                ap (λ k. step_at (set c.loop-step.steps (c.args.first + c.loop-step.step) c.number.result) (c.args.first + k)) e
                ∙ ap read_of (get_or-set_same c.loop-step.steps (c.args.first + c.loop-step.step) c.number.result 0 within)
                ∙ c.number.ensures
                ∙ c.received_step-received.ensures
                ∙ ap (λ a. received_from c.args.rate (λ i. get_or c.args.bits.now i false) a c.loop-step.step) c.loop-step.invariant.next
                ∙ ap (λ k. received_from c.args.rate (λ i. get_or c.args.bits.now i false) (c.args.at + sent_before c.args.rate k) k) (sym e)
            | inr l ↦
                let ne : c.args.first + j ≢ c.args.first + c.loop-step.step = omega arith in
                ap read_of (get_or-set_other c.loop-step.steps (c.args.first + c.loop-step.step) (c.args.first + j) c.number.result 0 ne) ∙ c.loop-step.invariant.set j l
          ];
      others = λ i h.
          let ne : i ≢ c.args.first + c.loop-step.step = omega arith in
          get_or-set_other c.loop-step.steps (c.args.first + c.loop-step.step) i c.number.result 0 ne ∙ c.loop-step.invariant.others i h;
    }

pub returns-clause-steps : goal.returns-clause-steps
returns-clause-steps c = λ j h. c.loop-step.invariant.set j (omega (arith, c.rate_pair-count.ensures.steps))

pub returns-clause-others : goal.returns-clause-others
returns-clause-others c = c.loop-step.invariant.others
