-- Where the words of a switch get stuck.
use Rattle.std.proofs.Common.{◌≡◌, ℕ, ◌≤◌, ◌<◌, Bool, true, false, List, [], ◌∷◌, ◌++◌, length, take, None, Some, refl, sym, ap, ◌∙◌, subst, arith}
use Rattle.std.specs.Prelude.{is_some}
use Rattle.std.proofs.lemmas.Bool.{lt-leb, le-ltb, ne_eqb}
use Rattle.isdbt_base.specs.declared.kinds.Mode.{Mode}
use Rattle.isdbt_base.specs.declared.kinds.Guard.{Guard}
use Rattle.isdbt_base.specs.declared.kinds.Layer.{Layer}
use Rattle.std.specs.declared.option.Option.{Option}
use Rattle.isdbt_base.specs.declared.epoch.At.{At}
use Rattle.isdbt_base.specs.declared.fault.PlanFault.{PlanFault}
use Rattle.isdbt_base.specs.Parameters.{Parameters, IsAccepted}
use Rattle.isdbt_base.specs.Plans.{Transmission, Switch, Schedule, SameLayers, IsPlan, RisesFrom, at_frame}
use Rattle.isdbt_base.specs.Epochs.{last_start_from, last_start, last_sent}
use Rattle.isdbt_base.specs.Switching.{alike, other_layer, layers_fault, switch_fault, with_switch}
use Rattle.isdbt_base.proofs.PlanEpochs.{same_layers}
use Rattle.isdbt_base.proofs.EpochLaws.{last_epoch}
use Rattle.isdbt_cli.specs.CommandLines.{frame_word, told_words, IsIn}
use Rattle.setting_words.specs.SettingWords.{Word, mode_word, guard_word, setting_word}
use Rattle.isdbt_cli.specs.Parsing.{Unread, Reads, BeginsWith, IsStuck, StartsWith, IsStuckAtGuard, ReadsMode, Change, change_words, IsChange, IsLater, AddsSwitch, IsStuckInSwitch}
use Rattle.setting_words.proofs.SettingWords.{setting_word-injective}
use Rattle.isdbt_cli.proofs.Stuck.{stuck_here, reads_both}
use Rattle.isdbt_cli.proofs.Transmissions.{same_head, same_tail, mode_word-injective}
use Rattle.isdbt_cli.proofs.PlanSpelling.{no_setting}

-- ---- behind a frame

abbrev pub Changes : Parameters → Mode → Guard → List Word → Type 0
Changes first mode guard = BeginsWith (IsChange first mode guard) change_words

-- the first setting once more
abbrev same_change : Bool → Mode → Guard → Parameters → Change
same_change told m g first = record { told = told; after = record { mode = m; guard = g; setting = first } }

-- behind a mode's word a mode is told
behind_mode : (m : Mode) (told : Bool) (t : Transmission) (ws rest : List Word) → mode_word m ∷ ws ≡ (told_words told t.mode t.guard ++ setting_word t.mode t.setting ∷ []) ++ rest
    → (mode_word m ≡ mode_word t.mode) × (ws ≡ guard_word t.guard ∷ setting_word t.mode t.setting ∷ rest)
behind_mode m true t ws rest e = (same_head e, same_tail e)
behind_mode m false t ws rest e = absurd (no_setting m t.mode t.setting (same_head e))

-- the first setting is accepted
module _ (first : Parameters) (mode : Mode) (guard : Guard) (ok : IsAccepted first) where
  is_change : (told : Bool) (m : Mode) (g : Guard) → (told ≡ false → (m ≡ mode) × (g ≡ guard)) → IsChange first mode guard (same_change told m g first)
  is_change told m g kept = record { accepted = ok; layers = (refl, refl); kept = kept }

  -- the guard interval behind a mode is none
  pub stuck_at_guard : (u : Unread) (p : ℕ) → IsStuckAtGuard u p → IsStuck (Changes first mode guard) u p
  stuck_at_guard u p s =
      stuck_here (Changes first mode guard) (mode_word s.mode ∷ []) u s.behind p s.reads s.place_is
      (guard_word guard ∷ setting_word s.mode first ∷ [], (same_change true s.mode guard first, is_change true s.mode guard (λ e. absurd (cc)), [], refl))
      (λ ws c heads. (let b = behind_mode s.mode c.0.told c.0.after ws c.2 c.3 in s.never c.0.after.guard (sym heads ∙ ap (take 1) b.1)))

  -- the setting is none that may stand there
  pub stuck_at_setting : (m : Mode) (g : Guard) (u v : Unread) (p : ℕ) → ReadsMode mode guard m g u v → p ≡ v.place
      → ((s : Parameters) → IsAccepted s → SameLayers first s → StartsWith (setting_word m s) v.words → ⊥) → IsStuck (Changes first mode guard) u p
  stuck_at_setting m g u v p r at never = go r.told r.reads r.kept r.next
    where
      behind_told : (t : Transmission) (told : Bool) (ws rest : List Word) → IsAccepted t.setting → SameLayers first t.setting
          → mode_word m ∷ guard_word g ∷ ws ≡ (told_words told t.mode t.guard ++ setting_word t.mode t.setting ∷ []) ++ rest → take 1 ws ≡ take 1 v.words → ⊥
      behind_told t true ws rest fine same e heads =
          let words : setting_word t.mode t.setting ≡ setting_word m t.setting = ap (λ n. setting_word n t.setting) (sym (mode_word-injective m t.mode (same_head e))) in
          never t.setting fine same (sym heads ∙ ap (take 1) (same_tail (same_tail e)) ∙ ap (λ (w : Word). w ∷ []) words)
      behind_told t false ws rest fine same e heads = no_setting m t.mode t.setting (same_head e)

      behind_kept : (t : Transmission) (told : Bool) (ws rest : List Word) → IsAccepted t.setting → SameLayers first t.setting → (told ≡ false → IsIn mode guard t)
          → m ≡ mode → ((n : Mode) → StartsWith (mode_word n) v.words → ⊥)
          → ws ≡ (told_words told t.mode t.guard ++ setting_word t.mode t.setting ∷ []) ++ rest → take 1 ws ≡ take 1 v.words → ⊥
      behind_kept t true ws rest fine same kept is next e heads = next t.mode (sym heads ∙ ap (take 1) e)
      behind_kept t false ws rest fine same kept is next e heads =
          let words : setting_word t.mode t.setting ≡ setting_word m t.setting = ap (λ n. setting_word n t.setting) ((kept refl).0 ∙ sym is) in
          never t.setting fine same (sym heads ∙ ap (take 1) e ∙ ap (λ (w : Word). w ∷ []) words)

      go : (told : Bool) → Reads (told_words told m g) u v → (told ≡ false → (m ≡ mode) × (g ≡ guard))
          → (told ≡ false → (n : Mode) → StartsWith (mode_word n) v.words → ⊥) → IsStuck (Changes first mode guard) u p
      go true reads kept next =
          stuck_here (Changes first mode guard) (mode_word m ∷ guard_word g ∷ []) u v p reads at
          (setting_word m first ∷ [], (same_change true m g first, is_change true m g (λ e. absurd (cc)), [], refl))
          (λ ws c heads. behind_told c.0.after c.0.told ws c.2 c.1.accepted c.1.layers c.3 heads)
      go false reads kept next =
          stuck_here (Changes first mode guard) [] u v p reads at
          (setting_word m first ∷ [], (same_change false m g first, is_change false m g kept, [], refl))
          (λ ws c heads. behind_kept c.0.after c.0.told ws c.2 c.1.accepted c.1.layers c.1.kept (kept refl).0 (next refl) c.3 heads)

-- ---- what the plan says

last_few : (last : ℕ) (first : Parameters) (ws : List Switch) → last ≤ 16777215 → RisesFrom last first ws → last_start_from last ws ≤ 16777215
last_few last first [] few r = few
last_few last first (w ∷ ws) few r = last_few w.frame first ws r.1 r.4

-- what holds at the last frame of all is what the last switch brought
pub record IsLast (p : Schedule) (b : At) : Type 0 where
  pub mode : b.mode ≡ (last_sent p).mode
  pub guard : b.guard ≡ (last_sent p).guard
  pub start : b.start ≡ last_start p

pub is_last : (p : Schedule) (b : At) → IsPlan p → b ≡ at_frame p 16777215 → IsLast p b
is_last p b plan e =
    let last = e ∙ last_epoch p 16777215 plan (last_few 0 p.first.setting p.switches (omega arith) plan.rising) in
    record { mode = ap (λ a. a.mode) last; guard = ap (λ a. a.guard) last; start = ap (λ a. a.start) last }

-- a plan with room takes a later switch unless its layers are others
fault_is : (p : Schedule) (frame : ℕ) (s : Parameters) → length p.switches < 7 → IsLater (last_start p) frame → switch_fault p frame s ≡ layers_fault (other_layer p.first.setting s)
fault_is p frame s room later =
    rw (lt-leb 7 (length p.switches) room, ne_eqb frame 0 (λ e. (let above = later.0 in omega (arith, e, above))), le-ltb 16777215 frame later.1, lt-leb frame (last_start p) later.0) refl

no_layer : (o : Option Layer) → layers_fault o ≡ None → o ≡ None
no_layer None e = refl
no_layer (Some x) e = absurd (cc)

alike_yes : (a b : Bool) → a ≡ b → alike a b ≡ true
alike_yes true b e = sym e
alike_yes false b e = rw (← e) refl

pub taken_layers : (p : Schedule) (frame : ℕ) (s : Parameters) → length p.switches < 7 → IsLater (last_start p) frame → switch_fault p frame s ≡ None → SameLayers p.first.setting s
taken_layers p frame s room later e = same_layers p.first.setting s (no_layer (other_layer p.first.setting s) (sym (fault_is p frame s room later) ∙ e))

pub refused_layers : (p : Schedule) (frame : ℕ) (s : Parameters) (fault : PlanFault) → length p.switches < 7 → IsLater (last_start p) frame
    → switch_fault p frame s ≡ Some fault → SameLayers p.first.setting s → ⊥
refused_layers p frame s fault room later e same =
    let none : switch_fault p frame s ≡ None = fault_is p frame s room later ∙ rw (
      alike_yes (is_some p.first.setting.b) (is_some s.b) same.0,
      alike_yes (is_some p.first.setting.c)
          (is_some s.c) same.1,
    ) refl in
    let bad : None ≡ Some fault = sym none ∙ e in cc

-- ---- the place in the switch

pub moved : (first : Parameters) (m n : Mode) (g h : Guard) (u : Unread) (place : ℕ) → m ≡ n → g ≡ h → IsStuck (Changes first m g) u place
    → IsStuck (Changes first n h) u place
moved first m n g h u place modes guards s = subst (λ x. IsStuck (Changes first x h) u place) modes (subst (λ x. IsStuck (Changes first m x) u place) guards s)

-- the next word spells a setting, and no other one
pub other_word : (m : Mode) (s t : Parameters) (u v : Unread) → Reads (setting_word m s ∷ []) u v → IsAccepted s → IsAccepted t → StartsWith (setting_word m t) u.words → s ≡ t
other_word m s t u v reads oks okt starts = setting_word-injective m s t oks okt (same_head (ap (take 1) (sym reads.split) ∙ starts))

-- the words of a switch, as they were read
pub record SwitchRead (b : At) (frame : ℕ) (t : Transmission) (u x : Unread) : Type 0 where
  pub v : Unread
  pub w : Unread
  pub frame_read : IsLater b.start frame × Reads (frame_word frame ∷ []) u v
  pub mode_read : ReadsMode b.mode b.guard t.mode t.guard v w
  pub accepted : IsAccepted t.setting
  pub setting_read : Reads (setting_word t.mode t.setting ∷ []) w x

module _ (p : Schedule) (b : At) (last : IsLast p b) where
  pub in_switch : (frame place : ℕ) (u v : Unread) → IsLater b.start frame × Reads (frame_word frame ∷ []) u v
      → IsStuck (Changes p.first.setting b.mode b.guard) v place → IsStuckInSwitch p u place
  in_switch frame place u v took s = record {
    frame = frame;
    behind = v;
    later = subst (λ n. IsLater n frame) last.start took.0;
    reads = took.1;
    stuck = moved p.first.setting b.mode (last_sent p).mode b.guard (last_sent p).guard v place last.mode last.guard s;
  }

  pub adds_switch : (q : Schedule) (frame : ℕ) (t : Transmission) (u x : Unread) → length p.switches < 7 → SwitchRead b frame t u x
      → (switch_fault p frame t.setting ≡ None) × (q ≡ with_switch p (record { frame = frame; after = t })) → AddsSwitch p q u x
  adds_switch q frame t u x room r taken =
      let later : IsLater (last_start p) frame = subst (λ n. IsLater n frame) last.start r.frame_read.0 in
      let m = r.mode_read in
      record {
        frame = frame;
        change = record { told = m.told; after = t };
        later = later;
        valid = record {
          accepted = r.accepted;
          layers = taken_layers p frame t.setting room later taken.0;
          kept = λ e. (let k = m.kept e in (k.0 ∙ last.mode, k.1 ∙ last.guard));
        };
        reads = reads_both (frame_word frame ∷ []) (told_words m.told t.mode t.guard ++ setting_word t.mode t.setting ∷ []) u r.v x r.frame_read.1
            (reads_both (told_words m.told t.mode t.guard) (setting_word t.mode t.setting ∷ []) r.v r.w x m.reads r.setting_read);
        is = taken.1;
      }
