use Rattle.std.proofs.Common.{ap, ◌∙◌}
use Rattle.std.specs.Prelude.{◌==◌}
use Rattle.isdbt_base.specs.Bits.{bits_number}
use Rattle.isdbt_base.proofs.BitLaws.{bits_number-lt}
use Rattle.tmcc_word.specs.CyclicCode.{remainder}
use Rattle.tmcc_word.proofs.Dividing.{remainder-more}
use Rattle.tmcc_word.proofs.cyclic_code.is_codeword.Goals as goal

pub returns : goal.returns
returns c =
    let n = bits_number c.args.bits.now in
    ap (λ r. r == 0) (c.divided.ensures.value ∙ ap (λ k. remainder k n) c.requires ∙ remainder-more 82 102 n (bits_number-lt 184 c.args.bits.now c.requires))
