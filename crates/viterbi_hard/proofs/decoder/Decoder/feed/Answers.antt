use Rattle.std.proofs.Common.{◌≡◌, ◌+◌, ◌*◌, ◌/◌, ◌<◌, ◌≤◌, ◌∙◌, ℕ, false, arith, ap, get_or, length, refl, sym, subst, take}
use Rattle.std.proofs.lemmas.List.{get_or-take, length-take, length-take-le}
use Rattle.isdbt_base.specs.declared.kinds.Rate.{Rate}
use Rattle.isdbt_base.specs.Numbers.{rate_steps, rate_bits}
use Rattle.viterbi_hard.specs.StandsFor.{FeedsTo, steps_in}
use Rattle.viterbi_hard.specs.Steps.{read_of, step_at, received_from, sent_before}
use Rattle.viterbi_hard.proofs.FeedLaws.{bits-fit, buffer-fits, expanded, feed-count, feed-none, feed-state, steps-fit}
use Rattle.viterbi_hard.proofs.decoder.Decoder.feed.Goals as goal

pub loop-done-init : goal.loop-done-init
loop-done-init c =
    let none : 0 ≡ rate_steps c.args.self.now.rate * 0 = omega arith in
    record {
      few = omega arith;
      within = omega arith;
      long = refl;
      feed = subst (λ m. FeedsTo c.args.self.now c.args.self.now c.args.bits.now c.args.out.now c.args.out.now 0 m) none (feed-none c.args.self.now c.args.bits.now c.args.out.now);
    }

pub expand-requires-clause-bits : goal.expand-requires-clause-bits
expand-requires-clause-bits c =
    let rated : c.args.self.now.rate ≡ c.loop-done.self.rate = sym c.loop-done.invariant.feed.rate in
    bits-fit c.loop-done.self.rate (length c.args.bits.now) c.loop-done.done c.min-count.result c.rate_pair-pattern_steps.result.1
    (c.rate_pair-pattern_steps.ensures.bits ∙ ap rate_bits rated) (omega (arith, c.min-count.ensures, c.loop-done-test.true))

pub expand-requires-clause-room : goal.expand-requires-clause-room
expand-requires-clause-room c =
    let rated : c.args.self.now.rate ≡ c.loop-done.self.rate = sym c.loop-done.invariant.feed.rate in
    let fit = buffer-fits c.loop-done.self.rate 840 c.min-count.result c.rate_pair-pattern_steps.result.0
    (c.rate_pair-pattern_steps.ensures.steps ∙ ap rate_steps rated) (omega (arith, c.min-count.ensures)) in
    omega (arith, fit, c.loop-done.invariant.long)

pub run-decided-requires : goal.run-decided-requires
run-decided-requires c =
    let more : c.loop-done.done + c.min-count.result ≤ length c.args.bits.now / c.rate_pair-pattern_steps.result.1 = omega (arith, c.min-count.ensures, c.loop-done-test.true) in
    let fit = steps-fit c.args.self.now.rate (length c.args.bits.now) c.loop-done.done c.min-count.result c.rate_pair-pattern_steps.result.1 c.rate_pair-pattern_steps.ensures.bits more in
    let count : c.min-count.result * c.rate_pair-pattern_steps.result.0 ≡ rate_steps c.args.self.now.rate * c.min-count.result = omega (arith, ap (λ m. c.min-count.result * m) c.rate_pair-pattern_steps.ensures.steps) in
    let long = length-take (c.min-count.result * c.rate_pair-pattern_steps.result.0) c.expand.new.steps in
    record { room = omega (arith, fit, count, long, c.loop-done.invariant.few, c.requires.room, c.loop-done.auto.out) }

pub loop-done-preserved : goal.loop-done-preserved
loop-done-preserved c =
    let rated : c.loop-done.self.rate ≡ c.args.self.now.rate = c.loop-done.invariant.feed.rate in
    let more : c.loop-done.done + c.min-count.result ≤ length c.args.bits.now / c.rate_pair-pattern_steps.result.1 = omega (arith, c.min-count.ensures, c.loop-done-test.true) in
    let count : c.min-count.result * c.rate_pair-pattern_steps.result.0 ≡ rate_steps c.args.self.now.rate * c.min-count.result = omega (arith, ap (λ m. c.min-count.result * m) c.rate_pair-pattern_steps.ensures.steps) in
    let low = buffer-fits c.args.self.now.rate 840 c.min-count.result c.rate_pair-pattern_steps.result.0 c.rate_pair-pattern_steps.ensures.steps (omega (arith, c.min-count.ensures)) in
    let whole : length c.expand.new.steps ≡ 840 = omega (arith, c.loop-done.invariant.long) in
    let size : c.min-count.result * c.rate_pair-pattern_steps.result.0 ≤ length c.expand.new.steps = omega (arith, low, count, whole) in
    let long : length (take (c.min-count.result * c.rate_pair-pattern_steps.result.0) c.expand.new.steps) ≡ c.min-count.result * c.rate_pair-pattern_steps.result.0 = length-take-le (c.min-count.result * c.rate_pair-pattern_steps.result.0) c.expand.new.steps size in
    let at : c.loop-done.done * c.rate_pair-pattern_steps.result.1 ≡ rate_bits c.args.self.now.rate * c.loop-done.done = omega (arith, ap (λ m. c.loop-done.done * m) c.rate_pair-pattern_steps.ensures.bits) in
    let room = bits-fit c.args.self.now.rate (length c.args.bits.now) c.loop-done.done c.min-count.result c.rate_pair-pattern_steps.result.1 c.rate_pair-pattern_steps.ensures.bits more in
    let Expands : Rate → Type 0 = λ rate. (q j : ℕ) → q < c.min-count.result → j < rate_steps rate → step_at c.expand.new.steps (rate_steps rate * q + j) ≡ received_from rate (λ i. get_or c.args.bits.now i false) (c.loop-done.done * c.rate_pair-pattern_steps.result.1 + rate_bits rate * q + sent_before rate j) j in
    let own : (q j : ℕ) → q < c.min-count.result → j < rate_steps c.args.self.now.rate → step_at c.expand.new.steps (rate_steps c.args.self.now.rate * q + j) ≡ received_from c.args.self.now.rate (λ i. get_or c.args.bits.now i false) (rate_bits c.args.self.now.rate * c.loop-done.done + rate_bits c.args.self.now.rate * q + sent_before c.args.self.now.rate j) j =
    λ q j h k. subst Expands rated c.expand.ensures q j h k ∙ ap (λ a. received_from c.args.self.now.rate (λ i. get_or c.args.bits.now i false) (a + rate_bits c.args.self.now.rate * q + sent_before c.args.self.now.rate j) j) at in
    let next : rate_steps c.args.self.now.rate * c.loop-done.done + length (take (c.min-count.result * c.rate_pair-pattern_steps.result.0) c.expand.new.steps) ≡ rate_steps c.args.self.now.rate * (c.loop-done.done + c.min-count.result) = omega (arith, long, count) in
    record {
      few = omega (arith, c.run-decided.ensures.count, c.loop-done.invariant.few, next);
      within = more;
      long = whole;
      feed =
          subst (λ m. FeedsTo c.args.self.now c.run-decided.new.self c.args.bits.now c.args.out.now c.run-decided.new.out c.run-decided.result m) next
          (c.run-decided.ensures.fed c.args.self.now c.args.bits.now c.args.out.now (rate_steps c.args.self.now.rate * c.loop-done.done)
          (λ read n s g i h.
          ap read_of (get_or-take (c.min-count.result * c.rate_pair-pattern_steps.result.0) c.expand.new.steps i 0 (omega (arith, long)))
          ∙ expanded c.args.self.now.rate c.args.bits.now c.expand.new.steps c.loop-done.done c.min-count.result (omega (arith, room, at)) own read n s.whole g i (omega (arith, long, count)))
          c.loop-done.invariant.feed);
    }

pub returns : goal.returns
returns c =
    let all : c.loop-done.done ≡ length c.args.bits.now / c.rate_pair-pattern_steps.result.1 = omega (arith, c.loop-done-test.false, c.loop-done.invariant.within) in
    let end : rate_steps c.args.self.now.rate * c.loop-done.done ≡ steps_in c.args.self.now.rate (length c.args.bits.now) =
    ap (λ m. rate_steps c.args.self.now.rate * m) (all ∙ ap (λ m. length c.args.bits.now / m) c.rate_pair-pattern_steps.ensures.bits) in
    let fed : FeedsTo c.args.self.now c.loop-done.self c.args.bits.now c.args.out.now c.loop-done.out c.loop-done.decided (steps_in c.args.self.now.rate (length c.args.bits.now)) =
    subst (λ m. FeedsTo c.args.self.now c.loop-done.self c.args.bits.now c.args.out.now c.loop-done.out c.loop-done.decided m) end c.loop-done.invariant.feed in
    record {
      count = λ read steps s. feed-count _ _ _ _ _ _ _ fed read steps s;
      most = omega (arith, end, c.loop-done.invariant.few);
      decided = λ read steps s g. fed.decided read steps s g;
      rest = fed.rest;
      state = λ read steps s g. feed-state _ _ _ _ _ _ _ fed read steps s g;
      rate = fed.rate;
    }
