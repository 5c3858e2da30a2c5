use Rattle.std.proofs.Common.{◌≡◌, suc, ◌+◌, drop, arith}
use Rattle.gf_rs.specs.Codewords.{differing}
use Rattle.gf_rs.proofs.Steps.{differing-same, differing-other, differing-end}
use Rattle.gf_rs.proofs.correction.count_differing.Goals as goal
use Rattle.gf_rs.proofs.correction.count_differing.Goals.{then-word-i, else-word-i}

pub loop-i-preserved : goal.loop-i-preserved
loop-i-preserved c =
    let w = c.args.word.now in
    let o = c.args.other.now in
    let i = c.loop-i.i in
    elim c.if-word-i.branch [
      | then-word-i w1 ↦ (let other : suc (differing (drop (i + 1) w) (drop (i + 1) o)) ≡ differing (drop i w) (drop i o) = differing-other w o i (omega arith) (omega arith) w1.if-word-i.true in
          record { bounded = omega arith; counts = omega arith })
      | else-word-i w1 ↦ (let same : differing (drop (i + 1) w) (drop (i + 1) o) ≡ differing (drop i w) (drop i o) = differing-same w o i (omega arith) (omega arith) w1.if-word-i.false in
          record { bounded = omega arith; counts = omega arith })
    ]

pub returns : goal.returns
returns c =
    let none : differing (drop c.loop-i.i c.args.word.now) (drop c.loop-i.i c.args.other.now) ≡ 0 = differing-end c.args.word.now c.args.other.now c.loop-i.i (omega arith) in
    omega arith
