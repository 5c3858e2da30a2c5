use Rattle.std.proofs.Common.{◌≤◌, false, length, replicate, take, ap, sym, ◌∙◌, arith}
use Rattle.std.proofs.lemmas.List.{take_all}
use Rattle.isdbt_base.specs.Bits.{number_bits, number_from}
use Rattle.tmcc_word.specs.CyclicCode.{remainder, parity_of}
use Rattle.tmcc_word.proofs.Dividing.{remainder-zeros}
use Rattle.tmcc_word.proofs.cyclic_code.parity.Goals as goal

pub returns : goal.returns
unfolding parity_of
returns c =
    let size = c.told-info in
    let room : length c.put_number.new.word ≤ 82 = omega arith in
    sym (take_all 82 c.put_number.new.word room)
    ∙ ap (λ n. take n c.put_number.new.word) (sym c.put_number.ensures.end)
    ∙ c.put_number.ensures.bits
    ∙ ap (number_bits 82) (c.divided-rest.ensures.value
    ∙ ap (λ n. remainder 82 (number_from n (replicate 82 false))) (c.divided.ensures.value ∙ ap (λ k. remainder k (number_from 0 c.args.info.now)) size)
    ∙ remainder-zeros c.args.info.now size)
