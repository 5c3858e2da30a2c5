use Rattle.std.proofs.Common.{◌≡◌, ◌≤◌, false, ◌∷◌, ◌++◌, length, replicate, take, ap, sym, ◌∙◌, arith}
use Rattle.std.proofs.lemmas.List.{take_all}
use Rattle.isdbt_base.specs.Bits.{number_bits}
use Rattle.tmcc_word.specs.Words.{sync_code, information_bits, word_of}
use Rattle.tmcc_word.specs.CyclicCode.{parity_of}
use Rattle.tmcc_word.proofs.Standing.{word-parts}
use Rattle.tmcc_word.proofs.writing.written.Goals as goal

pub returns : goal.returns
unfolding word_of
returns c =
    let info = information_bits c.args.info.now in
    let room : length c.put.new.out ≤ 204 = omega arith in
    let end : 204 ≡ c.put.result = omega arith in
    sym (take_all 204 c.put.new.out room)
    ∙ ap (λ n. take n c.put.new.out) end
    ∙ word-parts _ _ _ _ (number_bits 16 (sync_code c.args.odd)) (replicate 3 false) info (parity_of info)
    (c.put_number-at.ensures.bits ∙ ap (λ n. false ∷ number_bits 16 n) c.sync_code.ensures)
    c.put-at.ensures.items
    (c.put-at-2.ensures.items ∙ ap (λ bits. take c.put-at.result c.put-at.new.out ++ bits) c.information-bits.ensures)
    (c.put.ensures.items ∙ ap (λ bits. take c.put-at-2.result c.put-at-2.new.out ++ bits) (c.parity.ensures ∙ ap parity_of c.information-bits.ensures))
