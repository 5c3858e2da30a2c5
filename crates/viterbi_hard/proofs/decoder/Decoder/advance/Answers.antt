use Rattle.std.proofs.Common.{◌≡◌, ◌+◌, ◌*◌, ◌<◌, ◌∷◌, arith, add-one, drop, subst, sym}
use Rattle.viterbi_hard.specs.Steps.{read_of}
use Rattle.viterbi_hard.specs.Blocks.{Traced}
use Rattle.viterbi_hard.specs.States.{AreTags, Holds}
use Rattle.viterbi_hard.proofs.decoder.Decoder.advance.Goals as goal

pub returns-then-self-lt7-clause-keeps : goal.returns-then-self-lt7-clause-keeps
returns-then-self-lt7-clause-keeps c = λ rs k.
    let since : c.args.self.now.age + 8 * c.args.self.now.high + 1 ≡ c.args.self.now.age + 1 + 8 * c.args.self.now.high = omega arith in
    let low : c.args.self.now.age + 8 * c.args.self.now.high < 64 = omega (arith, k.young, k.few) in
    record {
      young = omega (arith, c.if-self-lt7.true);
      few = k.few;
      holds = subst (λ s. Holds c.next_step.result.0 s ((read_of c.args.read) ∷ rs)) since (c.next_step.ensures.metrics (c.args.self.now.age + 8 * c.args.self.now.high) rs k.holds low);
      tags = c.next_step.ensures.tags (c.args.self.now.age + 8 * c.args.self.now.high) rs k.holds low k.tags;
      traced = subst (λ a. Traced c.args.self.now.traceback (drop a ((read_of c.args.read) ∷ rs))) (sym (add-one c.args.self.now.age)) k.traced;
    }

pub returns-else-self-lt7-clause-keeps : goal.returns-else-self-lt7-clause-keeps
returns-else-self-lt7-clause-keeps c = λ rs k.
    let last : c.args.self.now.age ≡ 7 = omega (arith, k.young, c.if-self-lt7.false) in
    let eight : c.args.self.now.age + 1 ≡ 8 = omega (arith, last) in
    let since : c.args.self.now.age + 8 * c.args.self.now.high + 1 ≡ 8 + 8 * c.args.self.now.high = omega (arith, last) in
    let low : c.args.self.now.age + 8 * c.args.self.now.high < 64 = omega (arith, k.young, k.few) in
    c.end_block.ensures.keeps ((read_of c.args.read) ∷ rs)
    (record {
      few = k.few;
      holds = subst (λ s. Holds c.next_step.result.0 s ((read_of c.args.read) ∷ rs)) since (c.next_step.ensures.metrics (c.args.self.now.age + 8 * c.args.self.now.high) rs k.holds low);
      tags = subst (λ a. AreTags c.next_step.result.1 a ((read_of c.args.read) ∷ rs)) eight (c.next_step.ensures.tags (c.args.self.now.age + 8 * c.args.self.now.high) rs k.holds low k.tags);
      traced = subst (λ a. Traced c.args.self.now.traceback (drop a rs)) last k.traced;
    })
