-- Numbers as texts.
use Rattle.std.proofs.Common.{◌≡◌, ℕ, ◌≢◌, ◌<◌, ◌^◌, Bool, true, false, List, Ok, sym, ◌∙◌, arith}
use Rattle.std.specs.Prelude.{decimal}
use Rattle.std.specs.Str.{bytes_eq}
use Rattle.std.specs.Str.Parse.{ParsesUnsigned}
use Rattle.std.specs.declared.result.Result.{Result}
use Rattle.std.proofs.lemmas.Slice.Eq.{bytes_eq-Decides}
use Rattle.std.proofs.lemmas.Fmt.{parse-decimal}

-- a number is read of its text
pub number_read : {E : Type 0} (text : List ℕ) (r : Result ℕ E) (n : ℕ) → n < 2 ^ 32 → text ≡ decimal n → ParsesUnsigned 32 10 text r → r ≡ Ok n
number_read text r n few e parses = parse-decimal 32 n text r (omega (arith, few)) (omega (arith, few)) e parses

-- texts that are told to differ do
pub told_apart : (r : Bool) (v w : List ℕ) → r ≡ bytes_eq v w → r ≡ false → v ≢ w
told_apart r v w is told same = absurd (let e = (bytes_eq-Decides v w).1 same in let bad : true ≡ false = sym e ∙ sym is ∙ told in cc)
