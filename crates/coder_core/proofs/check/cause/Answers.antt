use Rattle.std.proofs.Common.{◌≡◌, [], ◌∷◌, Option, Some, None, refl}
use Rattle.std.specs.Option.{option_or}
use Rattle.isdbt_base.specs.Outcome.{first_some}
use Rattle.coder_core.specs.FrameChecks.{bad_sync, misplaced, refusal}
use Rattle.coder_core.specs.declared.fault.CodeFault.{CodeFault}
use Rattle.coder_core.proofs.check.cause.Goals as goal

first : (a b c d e : Option CodeFault) → option_or (option_or (option_or (first_some (a ∷ b ∷ [])) c) d) e ≡ first_some (a ∷ b ∷ c ∷ d ∷ e ∷ [])
first (Some x) b c d e = refl
first None (Some x) c d e = refl
first None None (Some x) d e = refl
first None None None (Some x) e = refl
first None None None None (Some x) = refl
first None None None None None = refl

-- the first of five causes, one or after the other
first_of : (a b : Option CodeFault) {c d e rb rc rd re y z r : Option CodeFault} → rb ≡ first_some (a ∷ b ∷ []) → rc ≡ c → rd ≡ d → re ≡ e → y ≡ option_or rb rc → z ≡ option_or y rd → r ≡ option_or z re
    → r ≡ first_some (a ∷ b ∷ c ∷ d ∷ e ∷ [])
first_of a b {c} {d} {e} ib ic id ie iy iz ir = rw (ir, iz, iy, ib, ic, id, ie) (first a b c d e)

pub returns : goal.returns
unfolding refusal
returns c = first_of (bad_sync c.args.first_packet c.args.frame.now) (misplaced c.args.number c.args.frame.now) c.framing_fault.ensures c.wrong_count.ensures c.wrong_count-2.ensures c.wrong_count-3.ensures c.or.ensures c.or-2.ensures c.or-3.ensures
