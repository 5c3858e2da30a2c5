-- The words of plans: a plan's words are of one plan, and what may follow those of a plan's front.
use Rattle.std.proofs.Common.{◌≡◌, ◌≢◌, ℕ, ◌≤◌, Bool, true, false, List, [], ◌∷◌, ◌++◌, length, refl, sym, ap, ◌∙◌, subst, arith, append_assoc, length-append}
use Rattle.std.specs.Prelude.{codes, decimal, ◌==◌}
use Rattle.std.proofs.lemmas.List.{append_cancel_left}
use Rattle.std.proofs.lemmas.Fmt.{decimal_injective}
use Rattle.isdbt_base.specs.declared.kinds.Mode.{Mode}
use Rattle.isdbt_base.specs.declared.kinds.Mode.TheVariants.{M1, M2, M3}
use Rattle.isdbt_base.specs.declared.kinds.Guard.{Guard}
use Rattle.isdbt_base.specs.Parameters.{Parameters, IsAccepted}
use Rattle.isdbt_base.specs.Plans.{Transmission, Switch, Schedule, IsPlan, RisesFrom}
use Rattle.isdbt_base.specs.Epochs.{last_start_from, last_sent_from, last_start}
use Rattle.isdbt_base.specs.Switching.{with_switch}
use Rattle.isdbt_cli.specs.CommandLines.{frame_word, told_words, switch_words, IsIn, SpellSwitches}
use Rattle.setting_words.specs.SettingWords.{Word, mode_word, guard_word, setting_word}
use Rattle.isdbt_cli.proofs.Transmissions.{same_head, same_tail, same_transmission}

-- ---- first letters

-- the first word begins with the letter of a frame
abbrev pub begins_at : List Word → Bool
begins_at [] = false
begins_at ([] ∷ ws) = false
begins_at ((x ∷ xs) ∷ ws) = x == 64

begins_a : Word → Bool
begins_a [] = false
begins_a (x ∷ xs) = x == 65

setting_begins : (m : Mode) (s : Parameters) → begins_a (setting_word m s) ≡ true
unfolding begins_a
setting_begins m s = refl

mode_begins : (m : Mode) → begins_a (mode_word m) ≡ false
unfolding begins_a
mode_begins M1 = refl
mode_begins M2 = refl
mode_begins M3 = refl

-- a mode's word is no setting's
pub no_setting : (m n : Mode) (s : Parameters) → mode_word m ≢ setting_word n s
no_setting m n s e = (let bad : false ≡ true = sym (mode_begins m) ∙ ap begins_a e ∙ setting_begins n s in absurd (cc))

-- ---- a switch's words are of one switch

-- this may stand behind that mode and guard interval, which it tells or keeps
pub record MayFollow (mode : Mode) (guard : Guard) (told : Bool) (t : Transmission) : Type 0 where
  pub accepted : IsAccepted t.setting
  pub kept : told ≡ false → IsIn mode guard t

same_change : (mode : Mode) (guard : Guard) (told told' : Bool) (t u : Transmission) (xs ys : List Word) → MayFollow mode guard told t → MayFollow mode guard told' u
    → (told_words told t.mode t.guard ++ setting_word t.mode t.setting ∷ []) ++ xs ≡ (told_words told' u.mode u.guard ++ setting_word u.mode u.setting ∷ []) ++ ys → (t ≡ u) × (xs ≡ ys)
same_change mode guard true true t u xs ys f g e = same_transmission t u xs ys f.accepted g.accepted e
same_change mode guard true false t u xs ys f g e = absurd (no_setting t.mode u.mode u.setting (same_head e))
same_change mode guard false true t u xs ys f g e = absurd (no_setting u.mode t.mode t.setting (sym (same_head e)))
same_change mode guard false false t u xs ys f g e =
    let modes : t.mode ≡ u.mode = (f.kept refl).0 ∙ sym (g.kept refl).0 in
    let guards : t.guard ≡ u.guard = (f.kept refl).1 ∙ sym (g.kept refl).1 in
    same_transmission t u xs ys f.accepted g.accepted
    (ap (λ m. mode_word m ∷ guard_word t.guard ∷ setting_word t.mode t.setting ∷ xs) modes ∙ ap (λ h. mode_word u.mode ∷ guard_word h ∷ setting_word t.mode t.setting ∷ xs) guards ∙ ap
    (λ ws. mode_word u.mode ∷ guard_word u.guard ∷ ws) e)

pub same_frame : (f g : ℕ) → f ≤ 16777215 → g ≤ 16777215 → frame_word f ≡ frame_word g → f ≡ g
same_frame f g few few' e = decimal_injective f g (omega (arith, few)) (omega (arith, few')) (append_cancel_left (codes "@") (decimal f) (decimal g) e)

same_switch : (t : Transmission) (told told' : Bool) (w v : Switch) (xs ys : List Word) → (w.frame ≤ 16777215) × MayFollow t.mode t.guard told w.after
    → (v.frame ≤ 16777215) × MayFollow t.mode t.guard told' v.after
    → switch_words told w ++ xs ≡ switch_words told' v ++ ys → (w ≡ v) × (xs ≡ ys)
same_switch t told told' w v xs ys f g e =
    let frames = same_frame w.frame v.frame f.0 g.0 (same_head e) in
    let changes = same_change t.mode t.guard told told' w.after v.after xs ys f.1 g.1 (same_tail e) in
    (ap (λ x. record { frame = x; after = w.after }) frames ∙ ap (λ x. record { frame = v.frame; after = x }) changes.0, changes.1)

-- ---- switches behind a front of them

-- the switches go on behind the front, and their words behind its words up to these
pub record GoOn (t : Transmission) (ws vs : List Switch) (tail names : List Word) : Type 0 where
  pub more : List Switch
  pub is : vs ≡ ws ++ more
  pub spelled : List Word
  pub spells : SpellSwitches (last_sent_from t ws) more spelled
  pub words : tail ≡ spelled ++ names

-- switches that rise to accepted settings with these layers, and their words
pub record Spelled (first : Parameters) (t : Transmission) (ws : List Switch) (words : List Word) : Type 0 where
  pub last : ℕ
  pub rises : RisesFrom last first ws
  pub spells : SpellSwitches t ws words

-- two lists of three parts that are equal
regroup : (a b c d tail names : List Word) {xs ys : List Word} → xs ≡ a ++ b → ys ≡ c ++ d → xs ++ tail ≡ ys ++ names → a ++ (b ++ tail) ≡ c ++ (d ++ names)
regroup a b c d tail names s s' e =
    sym (append_assoc a b tail) ∙ ap (λ (z : List Word). z ++ tail) (sym s) ∙ e ∙ ap (λ (z : List Word). z ++ names) s' ∙ append_assoc c d names

module _ (first : Parameters) (tail names : List Word) (none : begins_at names ≡ false) where
  pub go_on : (t : Transmission) (ws vs : List Switch) (xs ys : List Word) → Spelled first t ws xs → Spelled first t vs ys → xs ++ tail ≡ ys ++ names → GoOn t ws vs tail names
  go_on t [] vs xs ys s s' e = record { more = vs; is = refl; spelled = ys; spells = s'.spells; words = ap (λ (z : List Word). z ++ tail) (sym s.spells) ∙ e }
  go_on t (w ∷ ws) [] xs ys s s' e =
      let same : (switch_words s.spells.0 w ++ s.spells.1) ++ tail ≡ names = ap (λ (z : List Word). z ++ tail) (sym s.spells.2) ∙ e ∙ ap (λ (z : List Word). z ++ names) s'.spells in
      let bad : true ≡ false = ap begins_at same ∙ none in absurd (cc)
  go_on t (w ∷ ws) (v ∷ vs) xs ys s s' e =
      let k = s.spells in
      let l = s'.spells in
      let r = s.rises in
      let r' = s'.rises in
      let same = same_switch t k.0 l.0 w v (k.1 ++ tail) (l.1 ++ names) (r.1, record { accepted = r.2; kept = k.3 }) (r'.1, record { accepted = r'.2; kept = l.3 })
      (regroup (switch_words k.0 w) k.1 (switch_words l.0 v) l.1 tail names k.2 l.2 e) in
      let rest = go_on w.after ws vs k.1 l.1 (record { last = w.frame; rises = r.4; spells = k.4 })
      (record { last = v.frame; rises = r'.4; spells = subst (λ (x : Switch). SpellSwitches x.after vs l.1) (sym same.0) l.4 }) same.1 in
      record { more = rest.more; is = ap (λ (x : Switch). x ∷ vs) (sym same.0) ∙ ap (λ (y : List Switch). w ∷ y) rest.is; spelled = rest.spelled; spells = rest.spells; words = rest.words }

pub spell_more : (t : Transmission) (ws vs : List Switch) (xs ys : List Word) → SpellSwitches t ws xs → SpellSwitches (last_sent_from t ws) vs ys → SpellSwitches t (ws ++ vs) (xs ++ ys)
spell_more t [] vs xs ys s m = subst (λ (z : List Word). SpellSwitches t vs (z ++ ys)) (sym s) m
spell_more t (w ∷ ws) vs xs ys s m = (s.0, s.1 ++ ys, ap (λ (z : List Word). z ++ ys) s.2 ∙ append_assoc (switch_words s.0 w) s.1 ys, s.3, spell_more w.after ws vs s.1 ys s.4 m)

rises_front : (last : ℕ) (first : Parameters) (ws vs : List Switch) → RisesFrom last first (ws ++ vs) → RisesFrom last first ws
rises_front last first [] vs r = tt
rises_front last first (w ∷ ws) vs r = (r.0, r.1, r.2, r.3, rises_front w.frame first ws vs r.4)

rises_behind : (last : ℕ) (first : Parameters) (ws vs : List Switch) → RisesFrom last first (ws ++ vs) → RisesFrom (last_start_from last ws) first vs
rises_behind last first [] vs r = r
rises_behind last first (w ∷ ws) vs r = rises_behind w.frame first ws vs r.4

-- ---- plans behind a front of them

-- a plan that goes on with this switch
pub front_plan : (p q : Schedule) (w : Switch) (more : List Switch) → IsPlan q → q.first ≡ p.first → q.switches ≡ p.switches ++ w ∷ more
    → IsPlan (with_switch p w) × RisesFrom (last_start p) p.first.setting (w ∷ more)
front_plan p q w more plan first is =
    let same : q.switches ≡ (p.switches ++ w ∷ []) ++ more = is ∙ sym (append_assoc p.switches (w ∷ []) more) in
    let rising : RisesFrom 0 p.first.setting q.switches = subst (λ (t : Transmission). RisesFrom 0 t.setting q.switches) first plan.rising in (
      record {
        first = subst (λ (t : Transmission). IsAccepted t.setting) first plan.first;
        few = (let n = plan.few in let k = ap length same in let m = length-append (p.switches ++ w ∷ []) more in omega (arith, n, k, m));
        rising = rises_front 0 p.first.setting (p.switches ++ w ∷ []) more (subst (λ (l : List Switch). RisesFrom 0 p.first.setting l) same rising);
      },
      rises_behind 0 p.first.setting p.switches (w ∷ more) (subst (λ (l : List Switch). RisesFrom 0 p.first.setting l) is rising),
    )
