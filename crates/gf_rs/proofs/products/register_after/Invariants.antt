use Rattle.std.proofs.Common.{◌≡◌, ℕ, ◌<◌, take}
use Rattle.gf_rs.specs.Field.{gf_mul, gf_pow}
use Rattle.gf_rs.specs.Codewords.{value_at}
use Rattle.gf_rs.specs.Polynomials.{value_to, byte_of}
use Rattle.gf_rs.proofs.products.register_after.Given as goal

abbrev pub invariant-loop-byte : goal.invariant-loop-byte
invariant-loop-byte l = (i : ℕ) → i < 16 → value_to (byte_of l.register) 15 (gf_pow 2 i) ≡ gf_mul (value_at (take l.byte-index l.message) (gf_pow 2 i)) (gf_pow (gf_pow 2 i) 16)
