use Rattle.std.proofs.Common.{◌≡◌, ◌≢◌, ◌+◌, ◌-◌, ◌*◌, ◌/◌, ◌^◌, ◌<◌, ◌≤◌, ◌∙◌, arith, ap, add-one, drop, false, get_or, set, length, refl, sym, subst, inl, inr, get_or-set_same, get_or-set_other}
use Rattle.std.proofs.Math.Nat.{eq-or-lt_of_le}
use Rattle.viterbi_hard.specs.Blocks.{Traced}
use Rattle.viterbi_hard.specs.States.{AreTags, Holds, odd}
use Rattle.viterbi_hard.specs.StandsFor.{Keeps}
use Rattle.viterbi_hard.specs.Steps.{pushed}
use Rattle.viterbi_hard.specs.Trellis.{IsDecided}
use Rattle.viterbi_hard.proofs.BlockLaws.{own_tags}
use Rattle.viterbi_hard.proofs.ChosenLaws.{window-law}
use Rattle.viterbi_hard.proofs.FeedLaws.{drop-pushed, length-pushed}
use Rattle.viterbi_hard.proofs.decoder.Decoder.searched_block.Goals as goal

pub loop-step-init : goal.loop-step-init
loop-step-init c = record {
  metrics = λ rs k z.
      let since : c.args.self.now.age + 8 * c.args.self.now.high ≡ 8 * c.args.self.now.high + 0 = omega (arith, z) in
      subst (λ s. Holds c.args.self.now.metrics s rs) since k.holds;
  tags = λ rs k z. own_tags rs;
  put = λ rs k z none long j h. absurd (omega arith);
  rest = λ i h. refl;
}

held : (c : goal.After-searched_label-label) (rs : _) → Keeps c.args.self.now rs → c.args.self.now.age ≡ 0 → Holds c.next_step.result.0 (8 * c.args.self.now.high + (c.loop-step.step + 1)) (pushed c.args.steps.now c.args.at (c.loop-step.step + 1) rs)
held c rs k z =
    let on : 8 * c.args.self.now.high + c.loop-step.step + 1 ≡ 8 * c.args.self.now.high + (c.loop-step.step + 1) = omega arith in
    subst (λ s. Holds c.next_step.result.0 s (pushed c.args.steps.now c.args.at (c.loop-step.step + 1) rs)) on
    (subst (λ m. Holds c.next_step.result.0 (8 * c.args.self.now.high + c.loop-step.step + 1) (pushed c.args.steps.now c.args.at m rs)) (sym (add-one c.loop-step.step))
    (c.next_step.ensures.metrics (8 * c.args.self.now.high + c.loop-step.step) (pushed c.args.steps.now c.args.at c.loop-step.step rs) (c.loop-step.invariant.metrics rs k z) (omega (arith, k.few, c.loop-step-test.true))))

tagged : (c : goal.After-searched_label-label) (rs : _) → Keeps c.args.self.now rs → c.args.self.now.age ≡ 0 → AreTags c.next_step.result.1 (c.loop-step.step + 1) (pushed c.args.steps.now c.args.at (c.loop-step.step + 1) rs)
tagged c rs k z =
    subst (λ m. AreTags c.next_step.result.1 (c.loop-step.step + 1) (pushed c.args.steps.now c.args.at m rs)) (sym (add-one c.loop-step.step))
    (c.next_step.ensures.tags (8 * c.args.self.now.high + c.loop-step.step) (pushed c.args.steps.now c.args.at c.loop-step.step rs) (c.loop-step.invariant.metrics rs k z) (omega (arith, k.few, c.loop-step-test.true)) (c.loop-step.invariant.tags rs k z))

pub loop-step-preserved : goal.loop-step-preserved
loop-step-preserved c =
    let within : c.args.end + c.loop-step.step < length c.loop-step.out = omega (arith, c.requires.room, c.loop-step.auto.out, c.loop-step-test.true) in
    record {
      metrics = λ rs k z. held c rs k z;
      tags = λ rs k z. tagged c rs k z;
      put = λ rs k z none long j h.
          let upto : j ≤ c.loop-step.step = omega arith in
          elim (eq-or-lt_of_le upto) [
            | inl e ↦
                let is : get_or (set c.loop-step.out (c.args.end + c.loop-step.step) (odd (c.searched_label-label.result / 2 ^ (6 - c.loop-step.step)))) (c.args.end + j) false ≡ odd (c.searched_label-label.result / 2 ^ (6 - c.loop-step.step)) =
                ap (λ m. get_or (set c.loop-step.out (c.args.end + c.loop-step.step) (odd (c.searched_label-label.result / 2 ^ (6 - c.loop-step.step)))) (c.args.end + m) false) e
                ∙ get_or-set_same c.loop-step.out (c.args.end + c.loop-step.step) (odd (c.searched_label-label.result / 2 ^ (6 - c.loop-step.step))) false within in
                let place : 7 - (c.loop-step.step + 1) ≡ 6 - c.loop-step.step = omega arith in
                let ago : rs ≡ drop (c.loop-step.step + 1) (pushed c.args.steps.now c.args.at (c.loop-step.step + 1) rs) = sym (drop-pushed c.args.steps.now c.args.at (c.loop-step.step + 1) rs) in
                subst (λ b. IsDecided (pushed c.args.steps.now c.args.at (j + 1) rs) b) (sym is)
                (subst (λ m. IsDecided (pushed c.args.steps.now c.args.at (m + 1) rs) (odd (c.searched_label-label.result / 2 ^ (6 - c.loop-step.step)))) (sym e)
                (subst (λ m. IsDecided (pushed c.args.steps.now c.args.at (c.loop-step.step + 1) rs) (odd (c.searched_label-label.result / 2 ^ m))) place
                (window-law c.searched_label-label.result (c.loop-step.step + 1) (pushed c.args.steps.now c.args.at (c.loop-step.step + 1) rs)
                (c.searched_label-label.ensures (8 * c.args.self.now.high + (c.loop-step.step + 1)) (c.loop-step.step + 1) (pushed c.args.steps.now c.args.at (c.loop-step.step + 1) rs)
                (held c rs k z) (tagged c rs k z)
                (subst (λ q. Traced c.args.self.now.traceback q) ago (subst (λ a. Traced c.args.self.now.traceback (drop a rs)) z k.traced)) none)
                (omega (arith, c.loop-step-test.true)) (omega (arith, length-pushed c.args.steps.now c.args.at (c.loop-step.step + 1) rs)))))
            | inr l ↦
                let ne : c.args.end + j ≢ c.args.end + c.loop-step.step = omega arith in
                subst (λ b. IsDecided (pushed c.args.steps.now c.args.at (j + 1) rs) b) (sym (get_or-set_other c.loop-step.out (c.args.end + c.loop-step.step) (c.args.end + j) (odd (c.searched_label-label.result / 2 ^ (6 - c.loop-step.step))) false ne))
                (c.loop-step.invariant.put rs k z none long j l)
          ];
      rest = λ i h.
          let ne : i ≢ c.args.end + c.loop-step.step = elim h [ inl a ↦ omega arith | inr b ↦ omega (arith, c.loop-step-test.true) ] in
          get_or-set_other c.loop-step.out (c.args.end + c.loop-step.step) i (odd (c.searched_label-label.result / 2 ^ (6 - c.loop-step.step))) false ne ∙ c.loop-step.invariant.rest i h;
    }

kept : (c : goal.After-oldest_bit) (rs : _) → Keeps c.args.self.now rs → c.args.self.now.age ≡ 0 → Keeps c.end_block.new.self (pushed c.args.steps.now c.args.at 8 rs)
kept c rs k z =
    let last : c.loop-step.step ≡ 7 = omega (arith, c.loop-step-test.false, c.loop-step.auto.step-end) in
    let since : 8 * c.args.self.now.high + 7 + 1 ≡ 8 + 8 * c.args.self.now.high = omega arith in
    let metrics : Holds c.loop-step.metrics (8 * c.args.self.now.high + 7) (pushed c.args.steps.now c.args.at 7 rs) = subst (λ m. Holds c.loop-step.metrics (8 * c.args.self.now.high + m) (pushed c.args.steps.now c.args.at m rs)) last (c.loop-step.invariant.metrics rs k z) in
    let tags : AreTags c.loop-step.tags 7 (pushed c.args.steps.now c.args.at 7 rs) = subst (λ m. AreTags c.loop-step.tags m (pushed c.args.steps.now c.args.at m rs)) last (c.loop-step.invariant.tags rs k z) in
    let low : 8 * c.args.self.now.high + 7 < 64 = omega (arith, k.few) in
    c.end_block.ensures.keeps (pushed c.args.steps.now c.args.at 8 rs)
    (record {
      few = k.few;
      holds = subst (λ s. Holds c.next_step-2.result.0 s (pushed c.args.steps.now c.args.at 8 rs)) since (c.next_step-2.ensures.metrics (8 * c.args.self.now.high + 7) (pushed c.args.steps.now c.args.at 7 rs) metrics low);
      tags = c.next_step-2.ensures.tags (8 * c.args.self.now.high + 7) (pushed c.args.steps.now c.args.at 7 rs) metrics low tags;
      traced = subst (λ a. Traced c.args.self.now.traceback (drop a rs)) z k.traced;
    })

pub returns-clause-keeps : goal.returns-clause-keeps
returns-clause-keeps c = kept c

pub returns-clause-decides : goal.returns-clause-decides
returns-clause-decides c = λ rs k z none long j h.
    let upto : j ≤ 7 = omega arith in
    elim (eq-or-lt_of_le upto) [
      | inl e ↦
          let within : c.args.end + 7 < length c.loop-step.out = omega (arith, c.requires.room, c.loop-step.auto.out) in
          let is : get_or (set c.loop-step.out (c.args.end + 7) c.oldest_bit.result) (c.args.end + j) false ≡ c.oldest_bit.result =
          ap (λ m. get_or (set c.loop-step.out (c.args.end + 7) c.oldest_bit.result) (c.args.end + m) false) e ∙ get_or-set_same c.loop-step.out (c.args.end + 7) c.oldest_bit.result false within in
          let eight : 8 ≡ j + 1 = omega arith in
          subst (λ b. IsDecided (pushed c.args.steps.now c.args.at (j + 1) rs) b) (sym is)
          (subst (λ m. IsDecided (pushed c.args.steps.now c.args.at m rs) c.oldest_bit.result) eight
          (c.oldest_bit.ensures (pushed c.args.steps.now c.args.at 8 rs) (kept c rs k z) (omega (arith, length-pushed c.args.steps.now c.args.at 8 rs))))
      | inr l ↦
          let ne : c.args.end + j ≢ c.args.end + 7 = omega arith in
          subst (λ b. IsDecided (pushed c.args.steps.now c.args.at (j + 1) rs) b) (sym (get_or-set_other c.loop-step.out (c.args.end + 7) (c.args.end + j) c.oldest_bit.result false ne))
          (c.loop-step.invariant.put rs k z none long j (omega (arith, c.loop-step-test.false)))
    ]

pub returns-clause-rest : goal.returns-clause-rest
returns-clause-rest c = λ i h.
    let ne : i ≢ c.args.end + 7 = elim h [ inl a ↦ omega arith | inr b ↦ omega arith ] in
    get_or-set_other c.loop-step.out (c.args.end + 7) i c.oldest_bit.result false ne ∙ c.loop-step.invariant.rest i h
