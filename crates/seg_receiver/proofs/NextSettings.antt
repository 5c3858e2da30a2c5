-- Which setting a frame of a plan lets expect behind it: the next one at countdown 0, else its own.
use Rattle.std.proofs.Common.{◌≡◌, ℕ, suc, refl, arith, ap, sym, ◌∙◌, inl, inr, Some, List, [], ◌∷◌}
use Rattle.std.proofs.lemmas.Bool.{cases_lt, ne_eqb}
use Rattle.isdbt_base.specs.Parameters.{Parameters}
use Rattle.isdbt_base.specs.Plans.{Transmission, Schedule, Switch, at_frame, at_from, IsPlan, RisesFrom}
use Rattle.isdbt_base.proofs.PlanEpochs.{epoch_start-le, same_epoch}
use Rattle.seg_receiver.proofs.EpochStarts.{at_from-after, at_from-before, countdown-other, epoch_start-suc}

setting-own : (first : Parameters) (t : Transmission) (start : ℕ) (ws : List Switch) → RisesFrom start first ws → (at_from t start ws start).setting ≡ t.setting
setting-own first t start [] r = refl
setting-own first t start (w ∷ ws) r = ap (λ a. a.setting) (at_from-before t start w ws start r.0)

next_from-zero : (first : Parameters) (t : Transmission) (start : ℕ) (ws : List Switch) (f : ℕ) → RisesFrom start first ws → (at_from t start ws f).countdown ≡ 0 → (at_from t start ws f).next ≡ Some (at_from t start ws (suc f)).setting
next_from-zero first t start [] f r z = absurd (omega (arith, z))
next_from-zero first t start (w ∷ ws) f r z =
    elim (cases_lt f w.frame) [
      | inr after ↦ rw (at_from-after t start w ws f after, at_from-after t start w ws (suc f) (omega arith)) (next_from-zero first w.after w.frame ws f r.4 (rw (at_from-after t start w ws f after) at z))
      | inl before ↦ elim (cases_lt (suc f) w.frame) [
        | inl later ↦ absurd (countdown-other w.frame f later (rw (at_from-before t start w ws f before) at z))
        | inr now ↦ (let e : w.frame ≡ suc f = omega arith in
            rw (at_from-before t start w ws f before, at_from-after t start w ws (suc f) now)
            (ap Some (sym (ap (λ g. (at_from w.after w.frame ws g).setting) (sym e) ∙ setting-own first w.after w.frame ws r.4))))
      ]
    ]

-- behind countdown 0 the next setting holds
pub next_setting-zero : (p : Schedule) (f : ℕ) → IsPlan p → (at_frame p f).countdown ≡ 0 → (at_frame p f).next ≡ Some (at_frame p (suc f)).setting
next_setting-zero p f h z = next_from-zero p.first.setting p.first 0 p.switches f h.rising z

-- behind another the setting stays
pub setting-stays : (p : Schedule) (f : ℕ) → IsPlan p → ((at_frame p f).countdown ≡ 0 → ⊥) → (at_frame p f).setting ≡ (at_frame p (suc f)).setting
setting-stays p f h other =
    let start = rw (ne_eqb (at_frame p f).countdown 0 other) at (epoch_start-suc p f h) in
    let before = epoch_start-le p f in
    (same_epoch p f (suc f) h (omega arith) (omega (arith, start, before))).setting
