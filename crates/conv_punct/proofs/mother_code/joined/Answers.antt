use Rattle.std.proofs.Common.{◌≡◌, ◌+◌, ◌-◌, ◌*◌, ◌<◌, get_or, length, arith, ap, sym, ◌∙◌}
use Rattle.conv_punct.specs.CodedBits.{earlier_bit}
use Rattle.conv_punct.specs.MotherCode.{word_bit}
use Rattle.conv_punct.proofs.WordLaws.{AreNewest-byte, bits_of-byte}
use Rattle.conv_punct.proofs.mother_code.joined.Goals as goal

pub loop-byte-preserved : goal.loop-byte-preserved
loop-byte-preserved c = λ u i newest inputs.
    let k = c.loop-byte.byte-index in
    let bytes = c.args.bytes.now in
    let word = c.loop-byte.word in
    let byte = c.from.result in
    let is : byte ≡ get_or bytes k 0 = c.from.ensures in
    let small : byte < 256 = omega (arith, is, c.type_inv.bytes k) in
    let more = AreNewest-byte u (i + 8 * k) (6 + 8 * k) word byte small (omega arith) (c.loop-byte.invariant u i newest inputs)
    (λ d low. ap (λ b. word_bit b d) is ∙ sym (bits_of-byte bytes k d low) ∙ inputs (8 * k + (7 - d)) (omega arith) ∙ (let e : i + (8 * k + (7 - d)) ≡ i + 8 * k + (7 - d) = omega arith in ap u e)) in
    λ d h. (let steps : i + 8 * k + 8 ≡ i + 8 * (k + 1) = omega arith in more d (omega arith) ∙ ap (λ m. earlier_bit u m (d + 1)) steps)

pub returns : goal.returns
returns c = λ u i newest inputs.
    let all : c.loop-byte.byte-index ≡ length c.args.bytes.now = omega arith in
    λ d h. c.loop-byte.invariant u i newest inputs d (omega arith) ∙ ap (λ m. earlier_bit u (i + 8 * m) (d + 1)) all
