use Rattle.std.proofs.Common.{◌+◌, ◌*◌, arith, drop}
use Rattle.viterbi_hard.proofs.ChosenLaws.{label_ahead}
use Rattle.viterbi_hard.proofs.decoder.Decoder.oldest_label.Goals as goal

pub returns-then-self-gt0 : goal.returns-then-self-gt0
returns-then-self-gt0 c = λ rs k.
    label_ahead c.known_label.result c.args.self.now.age rs (c.known_label.ensures (drop c.args.self.now.age rs) k.traced (omega (arith, c.if-self-gt0.true)))

pub returns-else-self-gt0 : goal.returns-else-self-gt0
returns-else-self-gt0 c = λ rs k.
    c.searched_label.ensures (c.args.self.now.age + 8 * c.args.self.now.high) c.args.self.now.age rs k.holds k.tags k.traced (omega (arith, c.if-self-gt0.false))
