use Rattle.std.proofs.Common.{arith}
use Rattle.viterbi_hard.proofs.BlockLaws.{kept_equal, kept_oldest}
use Rattle.viterbi_hard.proofs.blocks.Blocks.read_kept.Goals as goal

pub returns-then-are_equal : goal.returns-then-are_equal
returns-then-are_equal c = record {
  traced = λ rs maps kept le short. record {
    maps = maps;
    few = omega arith;
    labels = kept_equal c.args.self.now rs c.read-labels.result (kept_oldest c.args.self.now rs c.read-labels.result kept le c.read-labels.ensures) (c.are_equal.ensures.equal c.if-are_equal.true) (omega arith);
    table = λ none. absurd (omega arith);
    short = short;
    kept = kept;
  };
}

pub returns-else-are_equal : goal.returns-else-are_equal
returns-else-are_equal c = record {
  traced = λ rs maps kept le short. record {
    maps = maps;
    few = omega arith;
    labels = λ b h le. absurd (omega arith);
    table = λ none. kept_oldest c.args.self.now rs c.read-labels.result kept le c.read-labels.ensures;
    short = short;
    kept = kept;
  };
}
