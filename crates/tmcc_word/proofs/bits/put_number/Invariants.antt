use Rattle.std.proofs.Common.{◌≡◌, ◌+◌, ◌-◌, ◌++◌, take, map}
use Rattle.std.specs.Prelude.{◌==◌}
use Rattle.std.specs.Int.{bit_at}
use Rattle.std.specs.List.{range_with_len}
use Rattle.tmcc_word.proofs.bits.put_number.Given as goal

abbrev pub invariant-loop-bit : goal.invariant-loop-bit
invariant-loop-bit l =
    take (l.at + l.bit) l.word ≡ take l.at l.initial.word ++ map (λ i. bit_at l.number (l.width - 1 - i) == 1) (range_with_len 0 l.bit)
