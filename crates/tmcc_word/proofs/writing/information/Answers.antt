use Rattle.std.proofs.Common.{◌≡◌, ◌≤◌, true, ◌++◌, length, replicate, take, ap, sym, ◌∙◌, arith}
use Rattle.std.proofs.lemmas.List.{take_all}
use Rattle.isdbt_base.specs.Bits.{number_bits}
use Rattle.tmcc_word.specs.Words.{information_bits, setting_field, next_field}
use Rattle.tmcc_word.proofs.Standing.{information-parts}
use Rattle.tmcc_word.proofs.writing.information.Goals as goal

pub returns : goal.returns
unfolding information_bits
returns c =
    let i = c.info.inside in
    let room : length c.put.new.out ≤ 102 = omega arith in
    let end : 102 ≡ c.put.result = omega arith in
    sym (take_all 102 c.put.new.out room)
    ∙ ap (λ n. take n c.put.new.out) end
    ∙ information-parts _ _ _ _ _ _ (number_bits 4 i.countdown) (setting_field i.now) (next_field i.next) (replicate 15 true) i.start_up
    c.put-at.ensures.items (c.put_number-at.ensures.bits ∙ ap (λ n. take c.put-at.result c.put-at.new.out ++ number_bits 4 n) c.from.ensures) c.put-at-2.ensures.items c.put_setting-at.ensures.bits c.put_next-at.ensures.bits c.put.ensures.items
    ∙ ap information_bits c.info.view_is
