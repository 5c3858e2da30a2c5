-- Plans and epochs. An epoch is the run of frames from frame 0 or a switch up to the next switch.
use Rattle.std.specs.Prelude.{◌≡◌, ℕ, ◌-◌, ◌<◌, ◌≤◌, if◌then◌else◌, nat_le, max, Option, Some, None, is_some, List, [], ◌∷◌, length}
use Rattle.isdbt_base.specs.declared.kinds.Mode.{Mode}
use Rattle.isdbt_base.specs.declared.kinds.Guard.{Guard}
use Rattle.isdbt_base.specs.declared.epoch.At.{At}
use Rattle.isdbt_base.specs.Parameters.{Parameters, IsAccepted}

-- what an epoch sends: its mode, its guard interval and its setting
pub record Transmission : Type 0 where
  pub mode : Mode
  pub guard : Guard
  pub setting : Parameters

-- from this frame on it is sent so
pub record Switch : Type 0 where
  pub frame : ℕ
  pub after : Transmission

-- what frame 0 sends, and the switches in order
pub record Schedule : Type 0 where
  pub first : Transmission
  pub switches : List Switch

-- two settings use the same layers
abbrev pub SameLayers : Parameters → Parameters → Type 0
SameLayers s u = (is_some s.b ≡ is_some u.b) × (is_some s.c ≡ is_some u.c)

-- the switches rise from this frame on, each to an accepted setting with these layers
abbrev pub RisesFrom : ℕ → Parameters → List Switch → Type 0
RisesFrom last first [] = Unit {0}
RisesFrom last first (w ∷ ws) =
    (last < w.frame) × (w.frame ≤ 16777215) × IsAccepted w.after.setting × SameLayers first w.after.setting × RisesFrom w.frame first ws

-- at most seven switches, at rising frames, that keep the layers
pub record IsPlan (p : Schedule) : Type 0 where
  pub first : IsAccepted p.first.setting
  pub few : length p.switches ≤ 7
  pub rising : RisesFrom 0 p.first.setting p.switches

-- the countdown: frames to the switch less one, where at most 15 are left, else 15
abbrev pub countdown_to : Option ℕ → ℕ → ℕ
countdown_to None f = 15
countdown_to (Some e) f = if nat_le (e - f) 15 then e - f - 1 else 15

abbrev pub next_frame : List Switch → Option ℕ
next_frame [] = None
next_frame (w ∷ ws) = Some w.frame

abbrev pub next_setting : List Switch → Option Parameters
next_setting [] = None
next_setting (w ∷ ws) = Some w.after.setting

abbrev pub next_mode : List Switch → Option Mode
next_mode [] = None
next_mode (w ∷ ws) = Some w.after.mode

abbrev pub next_guard : List Switch → Option Guard
next_guard [] = None
next_guard (w ∷ ws) = Some w.after.guard

-- what holds at frame f of the epoch that sends this from its start on up to the first of the switches
abbrev pub in_epoch : Transmission → ℕ → List Switch → ℕ → At
in_epoch t start ws f = record {
  mode = t.mode;
  guard = t.guard;
  setting = t.setting;
  start = start;
  end = next_frame ws;
  next = next_setting ws;
  next_mode = next_mode ws;
  next_guard = next_guard ws;
  countdown = countdown_to (next_frame ws) f;
}

-- what holds at frame f, which is sent so from the start on, and from the switches on as they say
abbrev pub at_from : Transmission → ℕ → List Switch → ℕ → At
at_from t start [] f = in_epoch t start [] f
at_from t start (w ∷ ws) f = if nat_le w.frame f then at_from w.after w.frame ws f else in_epoch t start (w ∷ ws) f

abbrev pub at_frame : Schedule → ℕ → At
at_frame p f = at_from p.first 0 p.switches f

-- each switch keeps the mode and the guard interval of what stands before it
abbrev pub KeepsMode : Transmission → List Switch → Type 0
KeepsMode t [] = Unit {0}
KeepsMode t (w ∷ ws) = (w.after.mode ≡ t.mode) × (w.after.guard ≡ t.guard) × KeepsMode w.after ws

-- the greatest of a number over what this and the switches send
abbrev pub greatest_from : (Transmission → ℕ) → ℕ → List Switch → ℕ
greatest_from n most [] = most
greatest_from n most (w ∷ ws) = greatest_from n (max most (n w.after)) ws

abbrev pub greatest_of : (Transmission → ℕ) → Schedule → ℕ
greatest_of n p = greatest_from n (n p.first) p.switches
