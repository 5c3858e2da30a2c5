-- No two codewords are near one word.
use Rattle.std.proofs.Common.{◌≡◌, ℕ, ◌+◌, ◌≤◌, List, length, arith, sym, ◌∙◌}
use Rattle.gf_rs.specs.Codewords.{differing, IsNear}
use Rattle.gf_rs.proofs.Words.{equal-from_close, differing-triangle}

pub one_near : (roots : ℕ) (word near other : List ℕ) → length word ≤ 255 → IsNear roots word near → IsNear roots word other → near ≡ other
one_near roots word near other n a b =
    let t : differing near other ≤ differing word near + differing word other = differing-triangle word near other a.size b.size in
    let ca : differing word near + differing word near ≤ roots = a.close in
    let cb : differing word other + differing word other ≤ roots = b.close in
    equal-from_close roots near other a.codeword b.codeword (b.size ∙ sym a.size) (let s : length near ≡ length word = a.size in omega arith) (omega arith)
