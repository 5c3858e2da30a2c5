use Rattle.std.proofs.Common.{◌≡◌, ◌-◌, ◌^◌, ◌<◌, length, drop}
use Rattle.isdbt_base.specs.Bits.{number_from}
use Rattle.tmcc_word.specs.CyclicCode.{remainder}
use Rattle.tmcc_word.proofs.cyclic_code.divided.Given as goal

abbrev pub invariant-loop-bit : goal.invariant-loop-bit
invariant-loop-bit l = record {
  value : remainder (length l.bits - l.bit-index) (number_from l.rest (drop l.bit-index l.bits)) ≡ remainder (length l.bits) (number_from l.fn.rest l.bits);
  most : l.rest < 2 ^ 82;
}
