-- The setting of the epoch after that of a frame.
use Rattle.std.proofs.Common.{ℕ, inl, inr, List, [], ◌∷◌}
use Rattle.std.proofs.lemmas.Bool.{cases_lt}
use Rattle.isdbt_base.specs.Parameters.{Parameters}
use Rattle.isdbt_base.specs.Plans.{Transmission, Schedule, Switch, at_frame, at_from, IsPlan, RisesFrom}
use Rattle.isdbt_base.proofs.PlanEpochs.{at_from-after, at_from-before}
use Rattle.tmcc_word.specs.Fields.{IsAcceptedIfAny}

-- the setting of the next epoch, if there is one, is accepted
next_from : (first : Parameters) (t : Transmission) (start last : ℕ) (ws : List Switch) (f : ℕ) → RisesFrom last first ws → IsAcceptedIfAny (at_from t start ws f).next
next_from first t start last [] f r = tt
next_from first t start last (w ∷ ws) f r =
    elim (cases_lt f w.frame) [
      | inl before ↦ rw (at_from-before t start w ws f before) r.2
      | inr after ↦ rw (at_from-after t start w ws f after) (next_from first w.after w.frame w.frame ws f r.4)
    ]

-- so is the setting of the epoch after that of the frame, if there is one
pub next_accepted : (p : Schedule) (f : ℕ) → IsPlan p → IsAcceptedIfAny (at_frame p f).next
next_accepted p f h = next_from p.first.setting p.first 0 0 p.switches f h.rising
