use Rattle.std.proofs.Common.{◌≡◌, ℕ, ◌<◌, get_or, length, take}
use Rattle.gf_rs.specs.Codewords.{value_at}
use Rattle.gf_rs.specs.Field.{gf_pow}
use Rattle.gf_rs.proofs.syndromes.fill_syndromes.Given as goal

abbrev pub invariant-loop-byte : goal.invariant-loop-byte
invariant-loop-byte l = (i : ℕ) → i < length l.syndromes → get_or l.syndromes i 0 ≡ value_at (take l.byte-index l.word) (gf_pow 2 i)
