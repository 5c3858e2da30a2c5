use Rattle.std.proofs.Common.{◌≡◌, ◌-◌, ◌/◌, ◌%◌, ◌^◌, arith, subst}
use Rattle.viterbi_hard.specs.States.{odd}
use Rattle.viterbi_hard.specs.Trellis.{IsDecided}
use Rattle.viterbi_hard.proofs.ChosenLaws.{window-law}
use Rattle.viterbi_hard.proofs.decoder.Decoder.oldest_bit.Goals as goal

pub returns : goal.returns
returns c = λ rs k long.
    let same : c.args.self.now.age ≡ c.args.self.now.age % 8 = omega (arith, k.young) in
    subst (λ a. IsDecided rs (odd (c.oldest_label.result / 2 ^ (7 - a)))) same
    (window-law c.oldest_label.result c.args.self.now.age rs (c.oldest_label.ensures rs k) k.young long)
