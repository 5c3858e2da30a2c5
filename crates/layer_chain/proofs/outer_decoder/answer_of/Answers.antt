use Rattle.std.proofs.Common.{List, ℕ, subst, sym, ap, ◌∙◌}
use Rattle.ts_packet.specs.Packets.{marked}
use Rattle.gf_rs.specs.Codewords.{IsNear}
use Rattle.layer_chain.proofs.NearAnswers.{answer-near, answer-foreign, answer-far}
use Rattle.layer_chain.proofs.outer_decoder.answer_of.Goals as goal

pub returns-then-near-eq-SYNC : goal.returns-then-near-eq-SYNC
returns-then-near-eq-SYNC c =
    let near : IsNear 16 c.args.word.now c.nearest.new.word = subst (λ w. IsNear 16 w c.nearest.new.word) c.copy_from_slice.ensures.after c.in-Codeword.ensures.answer.0 in
    c.packet_of.ensures ∙ sym (answer-near c.args.word.now c.nearest.new.word c.requires.size near c.if-near-eq-SYNC.true)

pub returns-else-near-eq-SYNC : goal.returns-else-near-eq-SYNC
returns-else-near-eq-SYNC c =
    let near : IsNear 16 c.args.word.now c.nearest.new.word = subst (λ w. IsNear 16 w c.nearest.new.word) c.copy_from_slice.ensures.after c.in-Codeword.ensures.answer.0 in
    c.with_error_mark.ensures.value ∙ ap marked c.packet_of-else-near-eq-SYNC.ensures ∙ sym (answer-foreign c.args.word.now c.nearest.new.word c.requires.size near c.if-near-eq-SYNC.false)

pub returns-in-Far : goal.returns-in-Far
returns-in-Far c =
    let far : (near : List ℕ) → IsNear 16 c.args.word.now near → ⊥ =
    subst (λ w. (near : List ℕ) → IsNear 16 w near → ⊥) c.copy_from_slice.ensures.after c.in-Far.ensures.answer.1 in
    c.with_error_mark-in-Far.ensures.value ∙ ap marked c.packet_of-in-Far.ensures ∙ sym (answer-far c.args.word.now far)
