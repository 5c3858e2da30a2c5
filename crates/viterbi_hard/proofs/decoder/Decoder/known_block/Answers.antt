use Rattle.std.proofs.Common.{◌≡◌, ◌≢◌, ◌+◌, ◌-◌, ◌*◌, ◌/◌, ◌^◌, ◌<◌, ◌≤◌, ◌∙◌, arith, ap, drop, false, get_or, set, length, sym, subst, inl, inr, get_or-set_same, get_or-set_other}
use Rattle.std.proofs.Math.Nat.{eq-or-lt_of_le}
use Rattle.viterbi_hard.specs.Blocks.{Traced}
use Rattle.viterbi_hard.specs.States.{Holds, IsLabel, odd, path_at}
use Rattle.viterbi_hard.specs.StandsFor.{Keeps}
use Rattle.viterbi_hard.specs.Steps.{pushed}
use Rattle.viterbi_hard.specs.Trellis.{IsDecided}
use Rattle.viterbi_hard.proofs.ChosenLaws.{label_ahead, window-law}
use Rattle.viterbi_hard.proofs.FeedLaws.{drop-pushed, length-pushed}
use Rattle.viterbi_hard.proofs.decoder.Decoder.known_block.Goals as goal

kept : (c : goal.After-oldest_bit) (rs : _) → Keeps c.args.self.now rs → c.args.self.now.age ≡ 0 → Keeps c.end_block.new.self (pushed c.args.steps.now c.args.at 8 rs)
kept c rs k z =
    let since : c.args.self.now.age + 8 * c.args.self.now.high + 8 ≡ 8 + 8 * c.args.self.now.high = omega arith in
    let low : c.args.self.now.age + 8 * c.args.self.now.high ≤ 56 = omega (arith, k.few) in
    c.end_block.ensures.keeps (pushed c.args.steps.now c.args.at 8 rs)
    (record {
      few = k.few;
      holds = subst (λ s. Holds c.eight_steps.result.0 s (pushed c.args.steps.now c.args.at 8 rs)) since (c.eight_steps.ensures.metrics (c.args.self.now.age + 8 * c.args.self.now.high) rs k.holds low);
      tags = c.eight_steps.ensures.tags (c.args.self.now.age + 8 * c.args.self.now.high) rs k.holds low;
      traced = subst (λ a. Traced c.args.self.now.traceback (drop a rs)) z k.traced;
    })

pub returns-clause-keeps : goal.returns-clause-keeps
returns-clause-keeps c = kept c

pub returns-clause-decides : goal.returns-clause-decides
returns-clause-decides c = λ rs k z some long j h.
    let all : length (pushed c.args.steps.now c.args.at (j + 1) rs) ≡ j + 1 + length rs = length-pushed c.args.steps.now c.args.at (j + 1) rs in
    let upto : j ≤ 7 = omega arith in
    elim (eq-or-lt_of_le upto) [
      | inl e ↦
          let within : c.args.end + 7 < length c.put_bits.new.out = omega (arith, c.requires.room) in
          let is : get_or (set c.put_bits.new.out (c.args.end + 7) c.oldest_bit.result) (c.args.end + j) false ≡ c.oldest_bit.result =
          ap (λ m. get_or (set c.put_bits.new.out (c.args.end + 7) c.oldest_bit.result) (c.args.end + m) false) e ∙ get_or-set_same c.put_bits.new.out (c.args.end + 7) c.oldest_bit.result false within in
          let eight : 8 ≡ j + 1 = omega arith in
          subst (λ b. IsDecided (pushed c.args.steps.now c.args.at (j + 1) rs) b) (sym is)
          (subst (λ m. IsDecided (pushed c.args.steps.now c.args.at m rs) c.oldest_bit.result) eight
          (c.oldest_bit.ensures (pushed c.args.steps.now c.args.at 8 rs) (kept c rs k z) (omega (arith, length-pushed c.args.steps.now c.args.at 8 rs))))
      | inr l ↦
          let ne : c.args.end + j ≢ c.args.end + 7 = omega arith in
          let place : 7 - (j + 1) ≡ 6 - j = omega arith in
          let is : get_or (set c.put_bits.new.out (c.args.end + 7) c.oldest_bit.result) (c.args.end + j) false ≡ odd (c.known_label-label.result / 2 ^ (6 - j)) =
          get_or-set_other c.put_bits.new.out (c.args.end + 7) (c.args.end + j) c.oldest_bit.result false ne ∙ c.put_bits.ensures.put j l in
          let ago : rs ≡ drop (j + 1) (pushed c.args.steps.now c.args.at (j + 1) rs) = sym (drop-pushed c.args.steps.now c.args.at (j + 1) rs) in
          subst (λ b. IsDecided (pushed c.args.steps.now c.args.at (j + 1) rs) b) (sym is)
          (subst (λ m. IsDecided (pushed c.args.steps.now c.args.at (j + 1) rs) (odd (c.known_label-label.result / 2 ^ m))) place
          (window-law c.known_label-label.result (j + 1) (pushed c.args.steps.now c.args.at (j + 1) rs)
          (label_ahead c.known_label-label.result (j + 1) (pushed c.args.steps.now c.args.at (j + 1) rs)
          (λ n lt. subst (λ q. IsLabel c.known_label-label.result (drop 120 (path_at q n))) ago (c.known_label-label.ensures rs (subst (λ a. Traced c.args.self.now.traceback (drop a rs)) z k.traced) some n lt)))
          (omega arith) (omega (arith, all))))
    ]
