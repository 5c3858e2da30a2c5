use Rattle.std.proofs.Common.{◌≡◌, ℕ, ◌-◌, Bool, ap, arith}
use Rattle.std.specs.Prelude.{◌==◌}
use Rattle.std.specs.Int.{bit_at}
use Rattle.std.proofs.lemmas.Nat.Bits.{shr_and_one}
use Rattle.isdbt_base.specs.Bits.{number_bits}
use Rattle.tmcc_word.proofs.Standing.{put-more}
use Rattle.tmcc_word.proofs.bits.put_number.Goals as goal

pub loop-bit-preserved : goal.loop-bit-preserved
loop-bit-preserved c =
    let f : ℕ → Bool = λ i. bit_at c.args.number (c.args.width - 1 - i) == 1 in
    put-more f c.loop-bit.word c.args.word.now c.args.at c.loop-bit.bit _ (omega arith) c.loop-bit.invariant
    (ap (λ d. d == 1) (shr_and_one c.args.number (c.args.width - 1 - c.loop-bit.bit)))

pub returns-clause-bits : goal.returns-clause-bits
unfolding number_bits
returns-clause-bits c =
    let all : c.loop-bit.bit ≡ c.args.width = omega arith in
    rw all at c.loop-bit.invariant
