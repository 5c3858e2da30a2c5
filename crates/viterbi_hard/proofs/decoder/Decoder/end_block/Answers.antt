use Rattle.std.proofs.Common.{◌≡◌, ◌+◌, ◌*◌, ◌∙◌, arith, subst, sym}
use Rattle.std.proofs.lemmas.List.{get_or_default}
use Rattle.viterbi_hard.specs.States.{Holds}
use Rattle.viterbi_hard.proofs.BlockLaws.{own_tags}
use Rattle.viterbi_hard.proofs.PathLaws.{holds_lowered}
use Rattle.viterbi_hard.proofs.decoder.Decoder.end_block.Goals as goal

pub returns-then-self-lt7-clause-keeps : goal.returns-then-self-lt7-clause-keeps
returns-then-self-lt7-clause-keeps c = λ rs k.
    let more : 8 + 8 * c.args.self.now.high ≡ 0 + 8 * (c.args.self.now.high + 1) = omega arith in
    record {
      young = omega arith;
      few = omega (arith, c.if-self-lt7.true);
      holds = subst (λ s. Holds c.args.self.now.metrics s rs) more k.holds;
      tags = own_tags rs;
      traced = c.push.ensures.traced rs k.traced k.tags;
    }

pub returns-else-self-lt7-clause-keeps : goal.returns-else-self-lt7-clause-keeps
returns-else-self-lt7-clause-keeps c = λ rs k.
    record {
      young = omega arith;
      few = omega arith;
      holds =
          holds_lowered c.args.self.now.metrics c.lowered-self.result (8 + 8 * c.args.self.now.high) rs c.least_of_all-least.result c.least_of_all-least.ensures.lane.0 k.holds
          (omega (arith, c.least_of_all-least.ensures.lane.1))
          (sym (get_or_default c.args.self.now.metrics c.least_of_all-least.ensures.lane.0 c.least_of_all-least.result 0 c.least_of_all-least.ensures.lane.1) ∙ c.least_of_all-least.ensures.lane.2)
          (λ n h. c.least_of_all-least.ensures.least n 0 (omega arith))
          c.lowered-self.ensures;
      tags = own_tags rs;
      traced = c.push.ensures.traced rs k.traced k.tags;
    }
