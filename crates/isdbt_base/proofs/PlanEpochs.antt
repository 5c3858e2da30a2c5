-- The epoch of a frame of a plan: its start, its mode, its setting and its countdown.
use Rattle.std.proofs.Common.{◌≡◌, ℕ, ◌-◌, ◌≤◌, ◌<◌, Bool, true, false, refl, sym, arith, inl, inr, Some, None, Option, List, [], ◌∷◌, ◌++◌, length}
use Rattle.std.specs.Prelude.{if◌then◌else◌, not, is_some}
use Rattle.std.proofs.lemmas.Bool.{le-leb, lt-leb, cases_lt}
use Rattle.std.proofs.lemmas.Bool.Decides.{leb_tells}
use Rattle.std.proofs.lemmas.List.{length-append}
use Rattle.isdbt_base.specs.declared.epoch.At.{At}
use Rattle.isdbt_base.specs.declared.kinds.Layer.TheVariants.{B, C}
use Rattle.isdbt_base.specs.Parameters.{Parameters, IsAccepted}
use Rattle.isdbt_base.specs.Plans.{Transmission, Schedule, Switch, at_frame, at_from, in_epoch, IsPlan, RisesFrom, SameLayers, countdown_to}
use Rattle.isdbt_base.specs.Epochs.{last_start_from, last_start}
use Rattle.isdbt_base.specs.Switching.{alike, other_layer, with_switch}

-- the first switch is behind a frame, or still to come
pub at_from-after : (t : Transmission) (start : ℕ) (w : Switch) (ws : List Switch) (f : ℕ) → w.frame ≤ f → at_from t start (w ∷ ws) f ≡ at_from w.after w.frame ws f
at_from-after t start w ws f h = rw (le-leb w.frame f h) refl

pub at_from-before : (t : Transmission) (start : ℕ) (w : Switch) (ws : List Switch) (f : ℕ) → f < w.frame → at_from t start (w ∷ ws) f ≡ in_epoch t start (w ∷ ws) f
at_from-before t start w ws f h = rw (lt-leb w.frame f h) refl

-- ---- starts

-- the epoch of a frame begins at the start or later
pub start-ge : (first : Parameters) (t : Transmission) (start : ℕ) (ws : List Switch) (f : ℕ) → RisesFrom start first ws → start ≤ (at_from t start ws f).start
start-ge first t start [] f r = omega arith
start-ge first t start (w ∷ ws) f r =
    elim (cases_lt f w.frame) [
      | inl before ↦ rw (at_from-before t start w ws f before) (omega arith)
      | inr after ↦ rw (at_from-after t start w ws f after) (let k = start-ge first w.after w.frame ws f r.4 in let m = r.0 in omega (arith, k, m))
    ]

-- the epoch of a frame from the start on begins at the frame or before
start-le : (t : Transmission) (start : ℕ) (ws : List Switch) (f : ℕ) → start ≤ f → (at_from t start ws f).start ≤ f
start-le t start [] f h = h
start-le t start (w ∷ ws) f h =
    elim (cases_lt f w.frame) [
      | inl before ↦ rw (at_from-before t start w ws f before) h
      | inr after ↦ rw (at_from-after t start w ws f after) (start-le w.after w.frame ws f after)
    ]

-- the epoch of a frame of a plan begins at the frame or before
pub epoch_start-le : (p : Schedule) (f : ℕ) → (at_frame p f).start ≤ f
epoch_start-le p f = start-le p.first 0 p.switches f (omega arith)

-- ---- one epoch

-- two frames are sent alike, in an epoch with the same start
pub record SameEpoch (a b : At) : Type 0 where
  pub mode : a.mode ≡ b.mode
  pub guard : a.guard ≡ b.guard
  pub setting : a.setting ≡ b.setting
  pub start : a.start ≡ b.start

-- frames from the start of an epoch up to one of its frames are sent alike
same_from : (first : Parameters) (t : Transmission) (start : ℕ) (ws : List Switch) (g f : ℕ) → RisesFrom start first ws → g ≤ f → (at_from t start ws f).start ≤ g → SameEpoch (at_from t start ws g) (at_from t start ws f)
same_from first t start [] g f r h k = record { mode = refl; guard = refl; setting = refl; start = refl }
same_from first t start (w ∷ ws) g f r h k =
    elim (cases_lt f w.frame) [
      | inl before ↦ rw (at_from-before t start w ws f before, at_from-before t start w ws g (omega arith)) (record { mode = refl; guard = refl; setting = refl; start = refl })
      | inr after ↦ (let from = rw (at_from-after t start w ws f after) at k in
          let least = start-ge first w.after w.frame ws f r.4 in
          rw (at_from-after t start w ws f after, at_from-after t start w ws g (omega (arith, from, least))) (same_from first w.after w.frame ws g f r.4 h from))
    ]

-- frames from the start of a frame's epoch up to the frame are in that epoch
pub same_epoch : (p : Schedule) (g f : ℕ) → IsPlan p → g ≤ f → (at_frame p f).start ≤ g → SameEpoch (at_frame p g) (at_frame p f)
same_epoch p g f h l k = same_from p.first.setting p.first 0 p.switches g f h.rising l k

-- ---- countdowns

-- a countdown is at most 15
countdown-le : (e : Option ℕ) (f : ℕ) → countdown_to e f ≤ 15
countdown-le None f = omega arith
countdown-le (Some e) f = elim (leb_tells (e - f) 15) [ inl near ↦ rw near.0 (let k = near.1 in omega (arith, k)) | inr far ↦ rw far.0 (omega arith) ]

countdown_from-le : (t : Transmission) (start : ℕ) (ws : List Switch) (f : ℕ) → (at_from t start ws f).countdown ≤ 15
countdown_from-le t start [] f = omega arith
countdown_from-le t start (w ∷ ws) f =
    elim (cases_lt f w.frame) [
      | inl before ↦ rw (at_from-before t start w ws f before) (countdown-le (Some w.frame) f)
      | inr after ↦ rw (at_from-after t start w ws f after) (countdown_from-le w.after w.frame ws f)
    ]

-- that of a frame of a plan too
pub at_countdown-le : (p : Schedule) (f : ℕ) → (at_frame p f).countdown ≤ 15
at_countdown-le p f = countdown_from-le p.first 0 p.switches f

-- ---- settings

-- what is sent at a frame has an accepted setting, if the first one is accepted
accepted_from : (first : Parameters) (t : Transmission) (start last : ℕ) (ws : List Switch) (f : ℕ) → IsAccepted t.setting → RisesFrom last first ws → IsAccepted (at_from t start ws f).setting
accepted_from first t start last [] f h r = h
accepted_from first t start last (w ∷ ws) f h r =
    elim (cases_lt f w.frame) [
      | inl before ↦ rw (at_from-before t start w ws f before) h
      | inr after ↦ rw (at_from-after t start w ws f after) (accepted_from first w.after w.frame w.frame ws f r.2 r.4)
    ]

-- the setting of each frame of a plan is accepted
pub setting_accepted : (p : Schedule) (f : ℕ) → IsPlan p → IsAccepted (at_frame p f).setting
setting_accepted p f h = accepted_from p.first.setting p.first 0 0 p.switches f h.first h.rising

-- ---- one more switch

-- switches that rise go on rising with a later one
pub rises-append : (last : ℕ) (first : Parameters) (ws : List Switch) (w : Switch) → RisesFrom last first ws → last_start_from last ws < w.frame → w.frame ≤ 16777215 → IsAccepted w.after.setting → SameLayers first w.after.setting → RisesFrom last first (ws ++ w ∷ [])
rises-append last first [] w r above within accepted same = (above, within, accepted, same, tt)
rises-append last first (v ∷ ws) w r above within accepted same = (r.0, r.1, r.2, r.3, rises-append v.frame first ws w r.4 above within accepted same)

pub plan-append : (p : Schedule) (w : Switch) → IsPlan p → length p.switches < 7 → last_start p < w.frame → w.frame ≤ 16777215 → IsAccepted w.after.setting → SameLayers p.first.setting w.after.setting → IsPlan (with_switch p w)
plan-append p w h few above within accepted same = record {
  first = h.first;
  few = (let n = length-append p.switches (w ∷ []) in omega (arith, n, few));
  rising = rises-append 0 p.first.setting p.switches w h.rising above within accepted same;
}

alike-same : (b c : Bool) → alike b c ≡ true → b ≡ c
alike-same true c h = sym h
alike-same false true h = absurd (cc)
alike-same false false h = refl

layers_from : (s u : Parameters) (b c : Bool) → alike (is_some s.b) (is_some u.b) ≡ b → alike (is_some s.c) (is_some u.c) ≡ c → (if not b then Some B else if not c then Some C else None) ≡ None → SameLayers s u
layers_from s u true true e f h = (alike-same (is_some s.b) (is_some u.b) e, alike-same (is_some s.c) (is_some u.c) f)
layers_from s u true false e f h = absurd (cc)
layers_from s u false c e f h = absurd (cc)

-- settings of which no layer differs use the same
pub same_layers : (s u : Parameters) → other_layer s u ≡ None → SameLayers s u
same_layers s u h = layers_from s u (alike (is_some s.b) (is_some u.b)) (alike (is_some s.c) (is_some u.c)) refl refl h
