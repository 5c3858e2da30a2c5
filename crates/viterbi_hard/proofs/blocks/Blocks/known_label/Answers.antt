use Rattle.std.proofs.Common.{◌≡◌, ◌%◌, arith, get_or, subst, drop}
use Rattle.viterbi_hard.specs.Blocks.{place_back}
use Rattle.viterbi_hard.specs.States.{IsLabel, path_at}
use Rattle.viterbi_hard.proofs.blocks.Blocks.known_label.Goals as goal

pub returns : goal.returns
returns c = λ rs k le n h.
    let place : place_back c.args.self.now.oldest 15 ≡ c.args.self.now.oldest % 16 = omega arith in
    subst (λ p. IsLabel (get_or c.args.self.now.labels p 0) (drop 120 (path_at rs n))) place (k.labels 15 (omega arith) (omega arith) n h)
