use Rattle.std.proofs.Common.{◌≡◌, ◌+◌, ◌≤◌, drop}
use Rattle.gf_rs.specs.Codewords.{differing}
use Rattle.gf_rs.proofs.correction.count_differing.Given as goal

abbrev pub invariant-loop-i : goal.invariant-loop-i
invariant-loop-i l = record {
  bounded : l.count ≤ l.i;
  counts : l.count + differing (drop l.i l.word) (drop l.i l.other) ≡ differing l.word l.other;
}
