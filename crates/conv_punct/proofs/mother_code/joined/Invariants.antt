use Rattle.std.proofs.Common.{◌≡◌, ℕ, ◌+◌, ◌*◌, ◌<◌, Bool, length}
use Rattle.conv_punct.specs.MotherCode.{AreNewest}
use Rattle.conv_punct.specs.StandsFor.{bits_of}
use Rattle.conv_punct.proofs.mother_code.joined.Given as goal

abbrev pub invariant-loop-byte : goal.invariant-loop-byte
invariant-loop-byte l = (u : ℕ → Bool) (i : ℕ) → AreNewest l.fn.inputs 6 u i → ((k : ℕ) → k < 8 * length l.bytes → bits_of l.bytes k ≡ u (i + k)) → AreNewest l.word (6 + 8 * l.byte-index) u (i + 8 * l.byte-index)
