use Rattle.std.proofs.Common.{◌≡◌, ◌+◌, ◌∙◌, arith, ap, set, length, refl, sym, subst, add-zero}
use Rattle.viterbi_hard.specs.StandsFor.{FeedsTo}
use Rattle.viterbi_hard.specs.Steps.{step_at, received_at}
use Rattle.viterbi_hard.proofs.FeedLaws.{feed-block, feed-more, feed-out}
use Rattle.viterbi_hard.proofs.decoder.Decoder.run.Goals as goal

pub loop-at-init : goal.loop-at-init
loop-at-init c = record {
  rate = refl;
  few = omega arith;
  within = omega arith;
  feed = λ start bits before done r f. subst (λ m. FeedsTo start c.args.self.now bits before c.args.out.now c.args.decided m) (sym (add-zero done)) f;
}

pub feed_block-requires-clause-room : goal.feed_block-requires-clause-room
feed_block-requires-clause-room c =
    let left = c.begins_block.ensures.left c.if-begins_block.true in
    omega (arith, left, c.loop-at.invariant.few, c.requires.room, c.loop-at.auto.out)

pub overflow_add-end : goal.overflow_add-end
overflow_add-end c =
    let left = c.begins_block.ensures.left c.if-begins_block.true in
    record { fits = omega (arith, left, c.loop-at.invariant.few, c.requires.room, c.loop-at.auto.out) }

pub loop-at-preserved-then-begins_block : goal.loop-at-preserved-then-begins_block
loop-at-preserved-then-begins_block c =
    let left = c.begins_block.ensures.left c.if-begins_block.true in
    let young = c.begins_block.ensures.age c.if-begins_block.true in
    record {
      rate = c.feed_block.ensures.rate ∙ c.loop-at.invariant.rate;
      few = omega (arith, c.loop-at.invariant.few);
      within = omega (arith, left);
      feed = λ start bits before done r f.
          let next : done + c.loop-at.at + 8 ≡ done + (c.loop-at.at + 8) = omega arith in
          subst (λ m. FeedsTo start c.feed_block.new.self bits before c.feed_block.new.out (c.loop-at.end + 8) m) next
          (feed-block start c.loop-at.self c.feed_block.new.self bits before c.loop-at.out c.feed_block.new.out c.loop-at.end (done + c.loop-at.at) c.loop-at.at c.args.steps.now
          (c.loop-at.invariant.feed start bits before done r f)
          (c.begins_block.ensures.steps c.if-begins_block.true)
          (λ rs k. c.feed_block.ensures.keeps rs k young)
          (λ rs k long j h. c.feed_block.ensures.decides rs k young long j h)
          c.feed_block.ensures.rest c.feed_block.ensures.rate c.feed_block.ensures.steps
          (λ read n s g i h.
          (let place : n + (done + (c.loop-at.at + i)) ≡ n + (done + c.loop-at.at) + i = omega arith in
          r read n s g (c.loop-at.at + i) (omega (arith, left)) ∙ ap (received_at start.rate read) place)));
    }

pub loop-at-preserved-then-self-lt-WAIT : goal.loop-at-preserved-then-self-lt-WAIT
loop-at-preserved-then-self-lt-WAIT c = record {
  rate = c.step-bit.ensures.rate ∙ c.loop-at.invariant.rate;
  few = omega (arith, c.loop-at.invariant.few);
  within = omega (arith, c.loop-at-test.true);
  feed = λ start bits before done r f.
      let next : done + c.loop-at.at + 1 ≡ done + (c.loop-at.at + 1) = omega arith in
      subst (λ m. FeedsTo start (record c.step-bit.new.self { steps = c.step-bit.new.self.steps + 1 }) bits before c.loop-at.out c.loop-at.end m) next
      (feed-more start c.loop-at.self (record c.step-bit.new.self { steps = c.step-bit.new.self.steps + 1 }) bits before c.loop-at.out c.loop-at.end (done + c.loop-at.at) (step_at c.args.steps.now c.loop-at.at) c.step-bit.result
      (c.loop-at.invariant.feed start bits before done r f)
      (λ rs k. let m = c.step-bit.ensures.keeps rs k in record { young = m.young; few = m.few; holds = m.holds; tags = m.tags; traced = m.traced })
      c.step-bit.ensures.decides c.step-bit.ensures.rate
      (λ read n s g. r read n s g c.loop-at.at c.loop-at-test.true)
      (omega (arith, c.step-bit.ensures.steps, c.if-self-lt-WAIT.true)) (omega (arith, c.step-bit.ensures.steps)));
}

pub bounds-out-end : goal.bounds-out-end
bounds-out-end c = omega (arith, c.loop-at.invariant.few, c.requires.room, c.loop-at.auto.out, c.loop-at-test.true)

pub overflow_add-end-else-self-lt-WAIT : goal.overflow_add-end-else-self-lt-WAIT
overflow_add-end-else-self-lt-WAIT c = record { fits = omega (arith, c.loop-at.invariant.few, c.requires.room, c.loop-at.auto.out, c.loop-at-test.true) }

pub loop-at-preserved : goal.loop-at-preserved
loop-at-preserved c = record {
  rate = c.step-bit.ensures.rate ∙ c.loop-at.invariant.rate;
  few = omega (arith, c.loop-at.invariant.few);
  within = omega (arith, c.loop-at-test.true);
  feed = λ start bits before done r f.
      let next : done + c.loop-at.at + 1 ≡ done + (c.loop-at.at + 1) = omega arith in
      subst (λ m. FeedsTo start c.step-bit.new.self bits before (set c.loop-at.out c.loop-at.end c.step-bit.result) (c.loop-at.end + 1) m) next
      (feed-out start c.loop-at.self c.step-bit.new.self bits before c.loop-at.out c.loop-at.end (done + c.loop-at.at) (step_at c.args.steps.now c.loop-at.at) c.step-bit.result
      (c.loop-at.invariant.feed start bits before done r f)
      c.step-bit.ensures.keeps c.step-bit.ensures.decides c.step-bit.ensures.rate
      (λ read n s g. r read n s g c.loop-at.at c.loop-at-test.true)
      (omega (arith, c.step-bit.ensures.steps, c.if-self-lt-WAIT.false)) c.step-bit.ensures.steps
      (omega (arith, c.loop-at.invariant.few, c.requires.room, c.loop-at.auto.out, c.loop-at-test.true)));
}

pub returns-clause-fed : goal.returns-clause-fed
returns-clause-fed c = λ start bits before done r f.
    let all : c.loop-at.at ≡ length c.args.steps.now = omega (arith, c.loop-at-test.false, c.loop-at.invariant.within) in
    subst (λ m. FeedsTo start c.loop-at.self bits before c.loop-at.out c.loop-at.end (done + m)) all (c.loop-at.invariant.feed start bits before done r f)

pub returns-clause-count : goal.returns-clause-count
returns-clause-count c = omega (arith, c.loop-at.invariant.few, c.loop-at.invariant.within)

pub returns-clause-rate : goal.returns-clause-rate
returns-clause-rate c = c.loop-at.invariant.rate
