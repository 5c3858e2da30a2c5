-- Lines that name a stream of cells: its version and its name, and what may stand behind them.
use Rattle.std.proofs.Common.{◌≡◌, ◌≢◌, ℕ, List, [], ◌∷◌, ◌++◌, take, refl, sym, ap, ◌∙◌, subst}
use Rattle.std.specs.Prelude.{codes}
use Rattle.std.proofs.lemmas.List.{append_cancel_left}
use Rattle.isdbt_base.specs.declared.kinds.Mode.{Mode}
use Rattle.isdbt_base.specs.declared.kinds.Mode.TheVariants.{M1, M2, M3}
use Rattle.isdbt_base.specs.declared.kinds.Guard.TheVariants.{G4}
use Rattle.isdbt_base.specs.declared.stream.Form.{Form}
use Rattle.isdbt_base.specs.declared.stream.Form.TheVariants.{V1, V2}
use Rattle.isdbt_cli.specs.CommandLines.{form_words, IsName}
use Rattle.setting_words.specs.SettingWords.{Word, mode_word, guard_word}
use Rattle.isdbt_cli.specs.Parsing.{Unread, Reads, BeginsWith, IsStuck, ReadsTold, IsStuckAtGuard, told_by}
use Rattle.isdbt_cli.proofs.Stuck.{stuck_here, stuck_behind, reads_none}
use Rattle.isdbt_cli.proofs.Transmissions.{some_name, same_head, same_tail, mode_word-injective, guard_word-injective}
use Rattle.isdbt_cli.proofs.CommandWords.{input_words}

-- ---- the version of the stream

-- a mode's word names no input
no_input : (m : Mode) (name : Word) → mode_word m ≢ codes "IN=" ++ name
no_input M1 name e = absurd (cc)
no_input M2 name e = absurd (cc)
no_input M3 name e = absurd (cc)

-- the words of a version and a name are of one version and of one name, whatever stands behind them
pub same_form : (form other : Form) (name name' : Word) (ws ws' : List Word) → form_words form ++ ((codes "IN=" ++ name) ∷ ws) ≡ form_words other ++ ((codes "IN=" ++ name') ∷ ws')
    → (form ≡ other) × (name ≡ name') × (ws ≡ ws')
same_form (V1 m g) (V1 m' g') name name' ws ws' e =
    let modes = mode_word-injective m m' (same_head e) in
    let guards = guard_word-injective g g' (same_head (same_tail e)) in
    let behind = same_tail (same_tail e) in
    (ap (λ x. V1 x g) modes ∙ ap (λ x. V1 m' x) guards, append_cancel_left (codes "IN=") name name' (same_head behind), same_tail behind)
same_form (V1 m g) V2 name name' ws ws' e = absurd (no_input m name' (same_head e))
same_form V2 (V1 m g) name name' ws ws' e = absurd (no_input m name (sym (same_head e)))
same_form V2 V2 name name' ws ws' e = (refl, append_cancel_left (codes "IN=") name name' (same_head e), same_tail e)

-- the words of the version that was read
pub reads_form : (form : Form) (u v : Unread) → ReadsTold (told_by form) u v → Reads (form_words form) u v
reads_form (V1 m g) u v r = r
reads_form V2 u v r = subst (λ (x : Unread). Reads [] u x) (sym r.0) (reads_none u)

-- ---- a line

-- a version and a name, and behind them words of a language
pub record IsCells (Tail : List Word → Type 0) (words : List Word) : Type 0 where
  pub form : Form
  pub name : Word
  pub tail : List Word
  pub some : IsName name
  pub tail_is : Tail tail
  pub words_are : words ≡ form_words form ++ ((codes "IN=" ++ name) ∷ tail)

-- the lines of a command are these words
pub record CellsLines (Line Tail : List Word → Type 0) : Type 0 where
  pub up : (form : Form) (name : Word) (tail : List Word) → IsName name → Tail tail → Line (form_words form ++ ((codes "IN=" ++ name) ∷ tail))
  pub down : (words : List Word) → Line words → IsCells Tail words
  pub last : List Word
  pub last_is : Tail last

module _ (Line Tail : List Word → Type 0) (lines : CellsLines Line Tail) where
  -- some line of each version
  pub follows_some : (form : Form) → (more : List Word) × Line (form_words form ++ more)
  follows_some form = ((codes "IN=" ++ codes "a") ∷ lines.last, lines.up form (codes "a") lines.last some_name lines.last_is)

  -- the word behind a mode is no guard interval
  pub stuck_at_guard : (u : Unread) (place : ℕ) → IsStuckAtGuard u place → IsStuck Line u place
  stuck_at_guard u place s =
      stuck_here Line (mode_word s.mode ∷ []) u s.behind place s.reads s.place_is
      (guard_word G4 ∷ (codes "IN=" ++ codes "a") ∷ lines.last, lines.up (V1 s.mode G4) (codes "a") lines.last some_name lines.last_is)
      (λ ws f heads. (let r = lines.down (mode_word s.mode ∷ ws) f in go ws heads r.form r.name r.tail r.words_are))
    where
      go : (ws : List Word) → take 1 ws ≡ take 1 s.behind.words → (form : Form) (name : Word) (tail : List Word) → mode_word s.mode ∷ ws ≡ form_words form ++ ((codes "IN=" ++ name) ∷ tail) → ⊥
      go ws heads (V1 m g) name tail e = s.never g (sym heads ∙ ap (take 1) (same_tail e))
      go ws heads V2 name tail e = no_input s.mode name (same_head e)

  -- the name of the input follows
  pub name_follows : (form : Form) (u v : Unread) → ReadsTold (told_by form) u v → (ws : List Word) → Line (form_words form ++ ws)
      → take 1 ws ≡ take 1 v.words → BeginsWith IsName (λ name. (codes "IN=" ++ name) ∷ []) ws
  name_follows form u v read ws f heads = (let r = lines.down (form_words form ++ ws) f in (r.name, r.some, r.tail, go form r.form read r.name r.tail r.words_are))
    where
      go : (form other : Form) → ReadsTold (told_by form) u v → (name : Word) (tail : List Word) → form_words form ++ ws ≡ form_words other ++ ((codes "IN=" ++ name) ∷ tail) → ws ≡ (codes "IN=" ++ name) ∷ tail
      go (V1 m g) (V1 m' g') read name tail e = same_tail (same_tail e)
      go (V1 m g) V2 read name tail e = absurd (no_input m name (same_head e))
      go V2 (V1 m g) read name tail e = absurd (read.1 m (sym heads ∙ ap (take 1) e))
      go V2 V2 read name tail e = e

  tail_follows : (form : Form) (name : Word) → IsName name → (ws : List Word) → Tail ws → Line ((form_words form ++ input_words name) ++ ws)
  tail_follows (V1 m g) name some ws t = lines.up (V1 m g) name ws some t
  tail_follows V2 name some ws t = lines.up V2 name ws some t

  follows_tail : (form : Form) (name : Word) (ws : List Word) → Line ((form_words form ++ input_words name) ++ ws) → Tail ws
  follows_tail form name ws f = go form f
    where
      behind : (form : Form) → Line (form_words form ++ ((codes "IN=" ++ name) ∷ ws)) → Tail ws
      behind form f = (let r = lines.down (form_words form ++ ((codes "IN=" ++ name) ∷ ws)) f in subst Tail (sym (same_form form r.form name r.name ws r.tail r.words_are).2) r.tail_is)

      go : (form : Form) → Line ((form_words form ++ input_words name) ++ ws) → Tail ws
      go (V1 m g) f = behind (V1 m g) f
      go V2 f = behind V2 f

  -- where what stands behind them gets stuck, the line does
  pub stuck_tail : (form : Form) (name : Word) → IsName name → (u v : Unread) (place : ℕ) → Reads (form_words form ++ input_words name) u v → IsStuck Tail v place → IsStuck Line u place
  stuck_tail form name some u v place reads stuck = stuck_behind Tail Line (form_words form ++ input_words name) u v place reads (tail_follows form name some) (follows_tail form name) stuck
