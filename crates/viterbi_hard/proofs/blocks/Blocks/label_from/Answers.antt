use Rattle.std.proofs.Common.{◌%◌, arith, get_or, subst, drop}
use Rattle.viterbi_hard.specs.Trellis.{path_of, survivor}
use Rattle.viterbi_hard.specs.States.{IsLabel}
use Rattle.viterbi_hard.proofs.StateLaws.{state_mod}
use Rattle.viterbi_hard.proofs.blocks.Blocks.label_from.Goals as goal

pub returns : goal.returns
returns c = λ rs k none.
    subst (λ s. IsLabel (get_or c.args.self.now.table (c.args.tag % 64) 0) (drop 120 (path_of s (survivor rs s)))) (state_mod c.args.tag) (k.table none (c.args.tag % 64) (omega arith))
