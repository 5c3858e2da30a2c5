use Rattle.std.proofs.Common.{◌≡◌, ℕ, ◌+◌, ◌<◌, ◌≤◌, get_or}
use Rattle.std.specs.Prelude.{bit_xor}
use Rattle.gf_rs.specs.Field.{gf_mul, gf_pow}
use Rattle.gf_rs.proofs.register.shift_in.Given as goal

abbrev pub invariant-loop-i : goal.invariant-loop-i
invariant-loop-i g l = record {
  done : (k : ℕ) → k < l.i → get_or l.register k 0 ≡ bit_xor (get_or l.initial.register (k + 1) 0) (gf_mul (bit_xor l.byte (get_or l.initial.register 0 0)) (gf_pow 2 (get_or l.generator k 0)));
  left : (k : ℕ) → l.i ≤ k → get_or l.register k 0 ≡ get_or l.initial.register k 0;
}
