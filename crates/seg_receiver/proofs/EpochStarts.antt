-- Where the epochs of a plan begin: at frame 0 and after each frame whose countdown is 0.
use Rattle.std.proofs.Common.{◌≡◌, ℕ, suc, ◌-◌, ◌≤◌, ◌<◌, refl, arith, ap, sym, ◌∙◌, inl, inr, Some, List, [], ◌∷◌}
use Rattle.std.specs.Prelude.{if◌then◌else◌, ◌==◌}
use Rattle.std.proofs.lemmas.Bool.{le-leb, lt-leb, cases_lt, ne_eqb}
use Rattle.std.proofs.lemmas.Bool.Decides.{leb_tells}
use Rattle.isdbt_base.specs.Parameters.{Parameters}
use Rattle.isdbt_base.specs.Plans.{Transmission, Schedule, Switch, at_frame, at_from, in_epoch, IsPlan, RisesFrom, countdown_to}

-- the first switch is behind a frame, or still to come
pub at_from-after : (t : Transmission) (start : ℕ) (w : Switch) (ws : List Switch) (f : ℕ) → w.frame ≤ f → at_from t start (w ∷ ws) f ≡ at_from w.after w.frame ws f
at_from-after t start w ws f h = rw (le-leb w.frame f h) refl

pub at_from-before : (t : Transmission) (start : ℕ) (w : Switch) (ws : List Switch) (f : ℕ) → f < w.frame → at_from t start (w ∷ ws) f ≡ in_epoch t start (w ∷ ws) f
at_from-before t start w ws f h = rw (lt-leb w.frame f h) refl

start-own : (first : Parameters) (t : Transmission) (start : ℕ) (ws : List Switch) → RisesFrom start first ws → (at_from t start ws start).start ≡ start
start-own first t start [] r = refl
start-own first t start (w ∷ ws) r = ap (λ a. a.start) (at_from-before t start w ws start r.0)

pub epoch_start-zero : (p : Schedule) → IsPlan p → (at_frame p 0).start ≡ 0
epoch_start-zero p h = start-own p.first.setting p.first 0 p.switches h.rising

pub countdown-last : (e f : ℕ) → e ≡ suc f → countdown_to (Some e) f ≡ 0
countdown-last e f h = rw (le-leb (e - f) 15 (omega arith)) (omega arith)

pub countdown-other : (e f : ℕ) → suc f < e → (countdown_to (Some e) f ≡ 0 → ⊥)
countdown-other e f h z =
    elim (leb_tells (e - f) 15) [
      | inl near ↦ (let k = rw near.0 at z in omega (arith, k))
      | inr far ↦ (let k = rw far.0 at z in omega (arith, k))
    ]

next_start : (first : Parameters) (t : Transmission) (start : ℕ) (ws : List Switch) (f : ℕ) → RisesFrom start first ws → (at_from t start ws (suc f)).start ≡ (if (at_from t start ws f).countdown == 0 then suc f else (at_from t start ws f).start)
next_start first t start [] f r = refl
next_start first t start (w ∷ ws) f r =
    elim (cases_lt f w.frame) [
      | inr after ↦ rw (at_from-after t start w ws f after, at_from-after t start w ws (suc f) (omega arith)) (next_start first w.after w.frame ws f r.4)
      | inl before ↦ elim (cases_lt (suc f) w.frame) [
        | inl later ↦ rw (at_from-before t start w ws f before, at_from-before t start w ws (suc f) later, ne_eqb (countdown_to (Some w.frame) f) 0 (countdown-other w.frame f later)) refl
        | inr now ↦ (let e : w.frame ≡ suc f = omega arith in
            rw (at_from-before t start w ws f before, at_from-after t start w ws (suc f) now, countdown-last w.frame f e)
            (ap (λ g. (at_from w.after w.frame ws g).start) (sym e) ∙ start-own first w.after w.frame ws r.4 ∙ e))
      ]
    ]

-- an epoch begins after each frame with countdown 0
pub epoch_start-suc : (p : Schedule) (f : ℕ) → IsPlan p → (at_frame p (suc f)).start ≡ (if (at_frame p f).countdown == 0 then suc f else (at_frame p f).start)
epoch_start-suc p f h = next_start p.first.setting p.first 0 p.switches f h.rising
