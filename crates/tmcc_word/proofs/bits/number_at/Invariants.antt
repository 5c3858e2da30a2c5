use Rattle.std.proofs.Common.{◌≡◌, ◌^◌, ◌<◌, drop}
use Rattle.isdbt_base.specs.Bits.{number_from, bits_number}
use Rattle.tmcc_word.proofs.bits.number_at.Given as goal

abbrev pub invariant-loop-bit : goal.invariant-loop-bit
invariant-loop-bit l = record {
  value : number_from l.number (drop l.bit-index l.bit-items) ≡ bits_number l.bit-items;
  most : l.number < 2 ^ l.bit-index;
}
