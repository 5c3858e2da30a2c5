use Rattle.std.proofs.Common.{◌+◌, ◌-◌, ◌%◌, arith, refl, set}
use Rattle.viterbi_hard.proofs.BlockLaws.{kept_next, labels_next, maps_next}
use Rattle.viterbi_hard.proofs.blocks.Blocks.push.Goals as goal

pub returns-then-self-gt1 : goal.returns-then-self-gt1
returns-then-self-gt1 c = record {
  traced = λ rs k t. record {
    maps = maps_next c.args.self.now (record c.args.self.now { maps = set c.args.self.now.maps (c.args.self.now.oldest % 16) c.args.tags; oldest = (c.args.self.now.oldest % 16 + 1) % 16; known = c.args.self.now.known - 1; kept = c.push.new.self }) rs c.args.tags k.maps t (omega arith) refl refl;
    few = omega (arith, k.few);
    labels = labels_next c.args.self.now (record c.args.self.now { maps = set c.args.self.now.maps (c.args.self.now.oldest % 16) c.args.tags; oldest = (c.args.self.now.oldest % 16 + 1) % 16; known = c.args.self.now.known - 1; kept = c.push.new.self }) rs c.args.tags k t refl refl (omega (arith, c.if-self-gt1.true));
    table = λ none. absurd (omega (arith, c.if-self-gt1.true));
    short = omega (arith, k.short, c.push.ensures.left);
    kept = kept_next c.args.self.now (record c.args.self.now { maps = set c.args.self.now.maps (c.args.self.now.oldest % 16) c.args.tags; oldest = (c.args.self.now.oldest % 16 + 1) % 16; known = c.args.self.now.known - 1; kept = c.push.new.self }) rs c.args.tags k.kept k.short t refl c.push.ensures.left c.push.ensures.labels c.push.ensures.front;
  };
}

pub returns-else-self-gt1 : goal.returns-else-self-gt1
returns-else-self-gt1 c = record {
  traced = λ rs k t.
      c.search.ensures.traced rs
      (maps_next c.args.self.now (record c.args.self.now { maps = set c.args.self.now.maps (c.args.self.now.oldest % 16) c.args.tags; oldest = (c.args.self.now.oldest % 16 + 1) % 16; kept = c.push.new.self }) rs c.args.tags k.maps t (omega arith) refl refl)
      (kept_next c.args.self.now (record c.args.self.now { maps = set c.args.self.now.maps (c.args.self.now.oldest % 16) c.args.tags; oldest = (c.args.self.now.oldest % 16 + 1) % 16; kept = c.push.new.self }) rs c.args.tags k.kept k.short t refl c.push.ensures.left c.push.ensures.labels c.push.ensures.front)
      (omega (arith, k.short, c.push.ensures.left));
}
