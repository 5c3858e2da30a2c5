use Rattle.std.proofs.Common.{◌≡◌, [], ◌∷◌, Option, Some, None, refl}
use Rattle.std.specs.Option.{option_or}
use Rattle.isdbt_base.specs.Outcome.{first_some}
use Rattle.coder_core.specs.declared.fault.CodeFault.{CodeFault}
use Rattle.coder_core.proofs.check.framing_fault.Goals as goal

first : (a b : Option CodeFault) → option_or a b ≡ first_some (a ∷ b ∷ [])
first (Some x) b = refl
first None (Some x) = refl
first None None = refl

-- the first of two causes, one or the other
first_of : {a b ra rb r : Option CodeFault} → ra ≡ a → rb ≡ b → r ≡ option_or ra rb → r ≡ first_some (a ∷ b ∷ [])
first_of {a} {b} ia ib ir = rw (ir, ia, ib) (first a b)

pub returns : goal.returns
returns c = first_of c.bad_sync.ensures c.misplaced.ensures c.or.ensures
