use Rattle.std.proofs.Common.{ap, sym, ◌∙◌, get_or, arith}
use Rattle.std.specs.Prelude.{bit_xor}
use Rattle.gf_rs.specs.Field.{gf_mul, gf_pow}
use Rattle.gf_rs.proofs.Steps.{value-none, value-take}
use Rattle.gf_rs.proofs.syndromes.fill_syndromes.Goals as goal

pub loop-byte-init : goal.loop-byte-init
loop-byte-init c i h = c.clear.ensures i ∙ sym (value-none (gf_pow 2 i))

pub loop-byte-preserved : goal.loop-byte-preserved
loop-byte-preserved c i h =
    c.advance.ensures i (omega arith)
    ∙ ap (λ z. bit_xor (gf_mul z (gf_pow 2 i)) (get_or c.args.word.now c.loop-byte.byte-index 0)) (c.loop-byte.invariant i (omega arith))
    ∙ sym (value-take c.args.word.now c.loop-byte.byte-index (gf_pow 2 i) (omega arith))
