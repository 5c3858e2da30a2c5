use Rattle.std.proofs.Common.{◌≡◌, ℕ, ◌<◌, ◌-◌, length, get_or, take}
use Rattle.std.specs.Prelude.{All}
use Rattle.gf_rs.specs.Field.{gf_mul, gf_pow}
use Rattle.gf_rs.specs.Codewords.{value_at}
use Rattle.gf_rs.specs.Polynomials.{value_to}
use Rattle.gf_rs.proofs.rs.Rs.shift_all.Given as goal

abbrev pub invariant-loop-byte : goal.invariant-loop-byte
invariant-loop-byte g l = record {
  bytes : All (λ b. b < 256) l.out;
  values : (i : ℕ) → i < length l.out → value_to (λ j. get_or l.out j 0) (length l.out - 1) (gf_pow 2 i) ≡ gf_mul (value_at (take l.byte-index l.message) (gf_pow 2 i)) (gf_pow (gf_pow 2 i) (length l.out));
}
