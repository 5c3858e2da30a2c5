use Rattle.std.proofs.Common.{◌+◌, ◌-◌, ◌*◌, drop, take, ap, sym, ◌∙◌}
use Rattle.std.proofs.lemmas.List.{drop_all}
use Rattle.isdbt_base.specs.Bits.{number_from}
use Rattle.tmcc_word.proofs.Numbers.{number_from-more, number-more-lt}
use Rattle.tmcc_word.proofs.bits.number_at.Goals as goal

pub loop-bit-preserved : goal.loop-bit-preserved
loop-bit-preserved c =
    let bits = take (c.args.at + c.args.width - c.args.at) (drop c.args.at c.args.word.now) in
    let n = c.loop-bit.number in
    let i = c.loop-bit.bit-index in
    record {
      value = ap (λ d. number_from (2 * n + d) (drop (i + 1) bits)) c.from.ensures ∙ number_from-more n i bits c.loop-bit-test.true ∙ c.loop-bit.invariant.value;
      most = rw c.from.ensures (number-more-lt n i _ c.loop-bit.invariant.most);
    }

pub returns-clause-value : goal.returns-clause-value
unfolding number_from
returns-clause-value c =
    let bits = take (c.args.at + c.args.width - c.args.at) (drop c.args.at c.args.word.now) in
    sym (ap (number_from c.loop-bit.number) (drop_all c.loop-bit.bit-index bits c.loop-bit-test.false)) ∙ c.loop-bit.invariant.value
