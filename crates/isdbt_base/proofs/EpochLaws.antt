-- The frames of an epoch, the end of an epoch, and the last one.
use Rattle.std.proofs.Common.{◌≡◌, ℕ, ◌≤◌, ◌<◌, true, refl, ap, sym, ◌∙◌, arith, inl, inr, Some, None, Option, List, [], ◌∷◌}
use Rattle.std.specs.Prelude.{max, IfSome}
use Rattle.std.proofs.lemmas.Bool.{cases_lt, lt-ltb, eq-eqb}
use Rattle.isdbt_base.specs.declared.epoch.At.{At}
use Rattle.isdbt_base.specs.Parameters.{Parameters}
use Rattle.isdbt_base.specs.Plans.{Transmission, Schedule, Switch, at_frame, at_from, in_epoch, IsPlan, RisesFrom, SameLayers, countdown_to, greatest_from, greatest_of}
use Rattle.isdbt_base.specs.Epochs.{last_start_from, last_sent_from, last_start, last_sent, begins_later}
use Rattle.isdbt_base.proofs.PlanEpochs.{at_from-after, at_from-before, start-ge}

-- a frame is before an end, if there is one
abbrev pub IsBefore : ℕ → Option ℕ → Type 0
IsBefore g None = Unit {0}
IsBefore g (Some e) = g < e

-- what holds at a frame of the epoch of which this is known
abbrev pub at_other : At → ℕ → At
at_other a g = record {
  mode = a.mode;
  guard = a.guard;
  setting = a.setting;
  start = a.start;
  end = a.end;
  next = a.next;
  next_mode = a.next_mode;
  next_guard = a.next_guard;
  countdown = countdown_to a.end g;
}

epoch_from : (first : Parameters) (t : Transmission) (start : ℕ) (ws : List Switch) (f g : ℕ) → RisesFrom start first ws → (at_from t start ws f).start ≤ g → IsBefore g (at_from t start ws f).end → at_from t start ws g ≡ at_other (at_from t start ws f) g
epoch_from first t start [] f g r h b = refl
epoch_from first t start (w ∷ ws) f g r h b =
    elim (cases_lt f w.frame) [
      | inl before ↦ (let end = rw (at_from-before t start w ws f before) at b in rw (at_from-before t start w ws f before, at_from-before t start w ws g end) refl)
      | inr after ↦ (let from = rw (at_from-after t start w ws f after) at h in
          let end = rw (at_from-after t start w ws f after) at b in
          let least = start-ge first w.after w.frame ws f r.4 in
          rw (at_from-after t start w ws f after, at_from-after t start w ws g (omega (arith, from, least))) (epoch_from first w.after w.frame ws f g r.4 from end))
    ]

-- the frames of an epoch differ in their countdowns alone
pub epoch_frame : (p : Schedule) (f g : ℕ) → IsPlan p → (at_frame p f).start ≤ g → IsBefore g (at_frame p f).end → at_frame p g ≡ at_other (at_frame p f) g
epoch_frame p f g h l b = epoch_from p.first.setting p.first 0 p.switches f g h.rising l b

-- ---- the end of an epoch

-- the next epoch begins at an epoch's end, which comes no later than the last epoch
pub record Ends (p : Schedule) (f e : ℕ) : Type 0 where
  pub after : f < e
  pub few : e ≤ 16777215
  pub starts : (at_frame p e).start ≡ e
  pub not_last : e ≤ last_start p

pub last-ge : (first : Parameters) (start : ℕ) (ws : List Switch) → RisesFrom start first ws → start ≤ last_start_from start ws
last-ge first start [] r = omega arith
last-ge first start (w ∷ ws) r = (let k = last-ge first w.frame ws r.4 in let m = r.0 in omega (arith, k, m))

pub start-own : (first : Parameters) (t : Transmission) (start : ℕ) (ws : List Switch) → RisesFrom start first ws → (at_from t start ws start).start ≡ start
start-own first t start [] r = refl
start-own first t start (w ∷ ws) r = ap (λ a. a.start) (at_from-before t start w ws start r.0)

record EndsFrom (t : Transmission) (start : ℕ) (ws : List Switch) (f e : ℕ) : Type 0 where
  pub after : f < e
  pub few : e ≤ 16777215
  pub starts : (at_from t start ws e).start ≡ e
  pub not_last : e ≤ last_start_from start ws

ends_from : (first : Parameters) (t : Transmission) (start : ℕ) (ws : List Switch) (f e : ℕ) → RisesFrom start first ws → (at_from t start ws f).end ≡ Some e → EndsFrom t start ws f e
ends_from first t start [] f e r h = absurd (cc)
ends_from first t start (w ∷ ws) f e r h =
    elim (cases_lt f w.frame) [
      | inl before ↦ (let is : w.frame ≡ e = (let k = rw (at_from-before t start w ws f before) at h in cc) in
          rw (sym is) (record {
            after = before;
            few = r.1;
            starts = ap (λ a. a.start) (at_from-after t start w ws w.frame (omega arith)) ∙ start-own first w.after w.frame ws r.4;
            not_last = last-ge first w.frame ws r.4;
          }))
      | inr after ↦ (let k = ends_from first w.after w.frame ws f e r.4 (rw (at_from-after t start w ws f after) at h) in
          let later = k.after in
          record {
            after = k.after;
            few = k.few;
            starts = ap (λ a. a.start) (at_from-after t start w ws e (omega (arith, after, later))) ∙ k.starts;
            not_last = k.not_last;
          })
    ]

pub epoch_end : (p : Schedule) (f e : ℕ) → IsPlan p → (at_frame p f).end ≡ Some e → Ends p f e
epoch_end p f e h is = (let k = ends_from p.first.setting p.first 0 p.switches f e h.rising is in record { after = k.after; few = k.few; starts = k.starts; not_last = k.not_last })

-- an epoch behind the first begins there
pub begins-end : (p : Schedule) (f e : ℕ) → IsPlan p → (at_frame p f).end ≡ Some e → begins_later p e ≡ true
begins-end p f e h is =
    let k = epoch_end p f e h is in
    let later = k.after in
    rw (lt-ltb 0 e (omega (arith, later)), k.starts) (eq-eqb e e refl)

-- ---- the last epoch

last_from : (first : Parameters) (t : Transmission) (start : ℕ) (ws : List Switch) (f : ℕ) → RisesFrom start first ws → last_start_from start ws ≤ f → at_from t start ws f ≡ in_epoch (last_sent_from t ws) (last_start_from start ws) [] f
last_from first t start [] f r h = refl
last_from first t start (w ∷ ws) f r h =
    let least = last-ge first w.frame ws r.4 in
    at_from-after t start w ws f (omega (arith, least, h)) ∙ last_from first w.after w.frame ws f r.4 h

-- from the start of the last epoch on all frames are in it
pub last_epoch : (p : Schedule) (f : ℕ) → IsPlan p → last_start p ≤ f → at_frame p f ≡ in_epoch (last_sent p) (last_start p) [] f
last_epoch p f h l = last_from p.first.setting p.first 0 p.switches f h.rising l

in_last_from : (first : Parameters) (t : Transmission) (start : ℕ) (ws : List Switch) (f : ℕ) → RisesFrom start first ws → start ≤ f → (at_from t start ws f).end ≡ None → last_start_from start ws ≤ f
in_last_from first t start [] f r l h = l
in_last_from first t start (w ∷ ws) f r l h =
    elim (cases_lt f w.frame) [
      | inl before ↦ absurd (let k = rw (at_from-before t start w ws f before) at h in cc)
      | inr after ↦ in_last_from first w.after w.frame ws f r.4 after (rw (at_from-after t start w ws f after) at h)
    ]

-- a frame whose epoch has no end is in the last one
pub in_last : (p : Schedule) (f : ℕ) → IsPlan p → (at_frame p f).end ≡ None → last_start p ≤ f
in_last p f h is = in_last_from p.first.setting p.first 0 p.switches f h.rising (omega arith) is

-- ---- what holds in all epochs

alike_from : (first : Parameters) (t : Transmission) (start last : ℕ) (ws : List Switch) (f : ℕ) → SameLayers first t.setting → RisesFrom last first ws → SameLayers first (at_from t start ws f).setting
alike_from first t start last [] f h r = h
alike_from first t start last (w ∷ ws) f h r =
    elim (cases_lt f w.frame) [
      | inl before ↦ rw (at_from-before t start w ws f before) h
      | inr after ↦ rw (at_from-after t start w ws f after) (alike_from first w.after w.frame w.frame ws f r.3 r.4)
    ]

-- all frames use the same layers
pub layers_alike : (p : Schedule) (f : ℕ) → IsPlan p → SameLayers p.first.setting (at_frame p f).setting
layers_alike p f h = alike_from p.first.setting p.first 0 0 p.switches f (refl, refl) h.rising

-- what a frame sends
abbrev pub sent : At → Transmission
sent a = record { mode = a.mode; guard = a.guard; setting = a.setting }

greatest-ge : (n : Transmission → ℕ) (most : ℕ) (ws : List Switch) → most ≤ greatest_from n most ws
greatest-ge n most [] = omega arith
greatest-ge n most (w ∷ ws) = (let k = greatest-ge n (max most (n w.after)) ws in omega (arith, k))

greatest_at : (n : Transmission → ℕ) (t : Transmission) (start most : ℕ) (ws : List Switch) (f : ℕ) → n t ≤ most → n (sent (at_from t start ws f)) ≤ greatest_from n most ws
greatest_at n t start most [] f h = h
greatest_at n t start most (w ∷ ws) f h =
    elim (cases_lt f w.frame) [
      | inl before ↦ rw (at_from-before t start w ws f before) (let k = greatest-ge n (max most (n w.after)) ws in omega (arith, k, h))
      | inr after ↦ rw (at_from-after t start w ws f after) (greatest_at n w.after w.frame (max most (n w.after)) ws f (omega arith))
    ]

-- no frame has more than the greatest
pub greatest-covers : (n : Transmission → ℕ) (p : Schedule) (f : ℕ) → n (sent (at_frame p f)) ≤ greatest_of n p
greatest-covers n p f = greatest_at n p.first 0 (n p.first) p.switches f (omega arith)
