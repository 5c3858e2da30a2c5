-- The last epoch of a plan, and the end of a frame's epoch.
use Rattle.std.specs.Prelude.{ℕ, ◌+◌, Bool, true, ◌&&◌, ◌==◌, Option, Some, None, List, [], ◌∷◌, nat_lt}
use Rattle.isdbt_base.specs.Plans.{Transmission, Schedule, Switch, at_frame}

-- the first frame of the last epoch
abbrev pub last_start_from : ℕ → List Switch → ℕ
last_start_from start [] = start
last_start_from start (w ∷ ws) = last_start_from w.frame ws

abbrev pub last_start : Schedule → ℕ
last_start p = last_start_from 0 p.switches

-- what the last epoch sends
abbrev pub last_sent_from : Transmission → List Switch → Transmission
last_sent_from t [] = t
last_sent_from t (w ∷ ws) = last_sent_from w.after ws

abbrev pub last_sent : Schedule → Transmission
last_sent p = last_sent_from p.first p.switches

-- whether a frame is at least so many frames before the end of its epoch: always in the last epoch
abbrev pub leaves_after : ℕ → Option ℕ → ℕ → Bool
leaves_after f None d = true
leaves_after f (Some e) d = nat_lt (f + d) e

-- whether an epoch behind the first begins at a frame
abbrev pub begins_later : Schedule → ℕ → Bool
begins_later p f = nat_lt 0 f && ((at_frame p f).start == f)
