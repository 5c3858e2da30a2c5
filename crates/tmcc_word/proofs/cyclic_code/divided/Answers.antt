use Rattle.std.proofs.Common.{◌+◌, ◌-◌, ◌*◌, ◌<◌, length, drop, ap, ◌∙◌, arith}
use Rattle.isdbt_base.specs.Bits.{number_from}
use Rattle.tmcc_word.specs.CyclicCode.{remainder}
use Rattle.tmcc_word.proofs.Dividing.{remainder-step, remainder-end}
use Rattle.tmcc_word.proofs.cyclic_code.divided.Goals as goal

pub loop-bit-preserved : goal.loop-bit-preserved
loop-bit-preserved c =
    let h : c.loop-bit.bit-index < length c.args.bits.now = omega arith in
    let rest = drop (c.loop-bit.bit-index + 1) c.args.bits.now in
    record {
      value = ap (λ n. remainder (length c.args.bits.now - (c.loop-bit.bit-index + 1)) (number_from n rest)) (c.reduced-rest.ensures.value ∙ ap (λ d. remainder 1 (2 * c.loop-bit.rest + d)) c.from.ensures)
          ∙ remainder-step c.loop-bit.rest c.loop-bit.bit-index c.args.bits.now h
          ∙ c.loop-bit.invariant.value;
      most = c.reduced-rest.ensures.most;
    }

pub returns-clause-value : goal.returns-clause-value
returns-clause-value c = remainder-end c.loop-bit.rest c.loop-bit.bit-index c.args.bits.now (omega arith) ∙ c.loop-bit.invariant.value
