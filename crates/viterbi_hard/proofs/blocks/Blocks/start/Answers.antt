use Rattle.std.proofs.Common.{refl}
use Rattle.viterbi_hard.proofs.StartLaws.{nothing_traced}
use Rattle.viterbi_hard.proofs.blocks.Blocks.start.Goals as goal

pub returns : goal.returns
returns c = nothing_traced _ refl refl refl c.start.ensures
