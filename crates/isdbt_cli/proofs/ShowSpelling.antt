-- The words of both commands show: what may follow the words that were read.
use Rattle.std.proofs.Common.{◌≡◌, ◌≢◌, ℕ, Bool, true, false, List, [], ◌∷◌, ◌++◌, refl, sym, ap, ◌∙◌, subst, append_assoc}
use Rattle.std.specs.Prelude.{codes, MatchResult, Result, Ok, Err}
use Rattle.isdbt_base.specs.declared.kinds.Mode.{Mode}
use Rattle.isdbt_base.specs.declared.kinds.Mode.TheVariants.{M1}
use Rattle.isdbt_base.specs.declared.kinds.Guard.{Guard}
use Rattle.isdbt_base.specs.declared.kinds.Guard.TheVariants.{G4}
use Rattle.isdbt_base.specs.declared.stream.Form.{Form}
use Rattle.isdbt_base.specs.declared.stream.Reading.{Reading}
use Rattle.isdbt_cli.specs.declared.command.Command.{Command as Parsed}
use Rattle.isdbt_cli.specs.CommandLines.{form_words, told_words, fix_words, IsName, Command, remux, code, receive, show_bts, show_cells, sample, SpellCommand, Spells}
use Rattle.setting_words.specs.SettingWords.{Word, mode_word, guard_word}
use Rattle.isdbt_cli.specs.Parsing.{Unread, Reads, BeginsWith, IsAny, IsStuck, Follows, FollowsBoth, command_of, SomeOf}
use Rattle.isdbt_cli.proofs.Stuck.{missing, wrong, reads_none, stuck_behind, stuck_word, stuck_end}
use Rattle.isdbt_cli.proofs.Transmissions.{some_name, same_head, same_tail}
use Rattle.isdbt_cli.proofs.CommandWords.{input_words, bts_words, cells_words, spell_bts, bts_spelled, spell_cells, cells_spelled, unlike, other_command, bts_or_cells}
use Rattle.isdbt_cli.proofs.ToldWords.{told_only, only_told}
use Rattle.isdbt_cli.proofs.CellsSpelling.{IsCells, CellsLines}
use Rattle.isdbt_cli.proofs.ReceiveSpelling.{fixing}

-- ---- what is shown

-- the second word: frames of cells, or of broadcast packets
abbrev pub shown_word : Bool → Word
shown_word true = codes "cells"
shown_word false = codes "bts"

-- a line begins with such a word
pub record IsShown (words : List Word) : Type 0 where
  pub cells : Bool
  pub rest : List Word
  pub words_are : words ≡ shown_word cells ∷ rest

shown : (words : List Word) → Follows (codes "show") words → IsShown words
shown words (remux p a b c, s) = absurd (other_command (remux p a b c) (codes "show") words (unlike (codes "show") (codes "remux") refl refl) s.spelled)
shown words (code p how name, s) = absurd (other_command (code p how name) (codes "show") words (unlike (codes "show") (codes "code") refl refl) s.spelled)
shown words (receive how partial name, s) = absurd (other_command (receive how partial name) (codes "show") words (unlike (codes "show") (codes "receive") refl refl) s.spelled)
shown words (sample number, s) = absurd (other_command (sample number) (codes "show") words (unlike (codes "show") (codes "sample") refl refl) s.spelled)
shown words (show_bts mode guard name, s) = record { cells = false; rest = bts_words mode guard name; words_are = same_tail (bts_spelled mode guard name (codes "show" ∷ words) s.spelled) }
shown words (show_cells how name, s) = record { cells = true; rest = cells_words how name; words_are = same_tail (cells_spelled how name (codes "show" ∷ words) s.spelled) }

shown_begins : (words : List Word) → Follows (codes "show") words → BeginsWith IsAny (λ c. shown_word c ∷ []) words
shown_begins words f = (let s = shown words f in (s.cells, tt, s.rest, s.words_are))

some_bts : Follows (codes "show") (codes "bts" ∷ bts_words M1 G4 (codes "a"))
some_bts = (show_bts M1 G4 (codes "a"), record { command = some_name; spelled = spell_bts M1 G4 (codes "a") })

-- neither of them is the next word
stuck_second : (u : Unread) (place : ℕ) → IsStuck (BeginsWith IsAny (λ c. shown_word c ∷ [])) u place → IsStuck (Follows (codes "show")) u place
stuck_second u place s = stuck_word IsAny shown_word (Follows (codes "show")) [] u u place (reads_none u) s (codes "bts" ∷ bts_words M1 G4 (codes "a"), some_bts) (λ ws f heads. shown_begins ws f)

-- no word is left
pub no_second : (u : Unread) (place : ℕ) → (place ≡ u.place) × (u.words ≡ []) → IsStuck (Follows (codes "show")) u place
no_second u place says = stuck_second u place (missing IsAny shown_word false tt u place says)

-- another word
pub other_second : (u v : Unread) (place : ℕ) (w : Word) → place ≡ u.place → Reads (w ∷ []) u v → w ≢ codes "bts" → w ≢ codes "cells" → IsStuck (Follows (codes "show")) u place
other_second u v place w at reads not_bts not_cells = stuck_second u place (wrong IsAny shown_word false tt u v place w at reads other)
  where
    other : (c : Bool) → IsAny c → w ≢ shown_word c
    other true any = not_cells
    other false any = not_bts

-- the rule behind both words says it of the words behind the first
pub behind_second : (second : Word) (u v : Unread) (w : Word) (r : Result Parsed ℕ) → Reads (w ∷ []) u v → w ≡ second
    → MatchResult r (λ c. Spells (codes "show" ∷ second ∷ v.words) (command_of c)) (λ place. IsStuck (FollowsBoth (codes "show") second) v place)
    → MatchResult r (λ c. Spells (codes "show" ∷ u.words) (command_of c)) (λ place. IsStuck (Follows (codes "show")) u place)
behind_second second u v w (Ok c) reads same says =
    let all : second ∷ v.words ≡ u.words = ap (λ x. x ∷ v.words) (sym same) ∙ sym reads.split in
    subst (λ (ws : List Word). Spells (codes "show" ∷ ws) (command_of c)) all says
behind_second second u v w (Err place) reads same says =
    stuck_behind (FollowsBoth (codes "show") second) (Follows (codes "show")) (second ∷ []) u v place (subst (λ (x : Word). Reads (x ∷ []) u v) same reads) (λ ws f. f) (λ ws f. f) says

-- ---- frames of broadcast packets

-- what may follow the word for them
abbrev pub BtsLine : List Word → Type 0
BtsLine = FollowsBoth (codes "show") (codes "bts")

-- a mode, a guard interval and a name, whose words these are
pub record IsBts (words : List Word) (c : Command) : Type 0 where
  pub mode : Mode
  pub guard : Guard
  pub name : Word
  pub is : c ≡ show_bts mode guard name
  pub some : IsName name
  pub words_are : words ≡ bts_words mode guard name

bts_follows : (mode : Mode) (guard : Guard) (name : Word) → IsName name → BtsLine (bts_words mode guard name)
bts_follows mode guard name some = (show_bts mode guard name, record { command = some; spelled = spell_bts mode guard name })

pub bts_followed : (words : List Word) (f : BtsLine words) → IsBts words f.0
bts_followed words (remux p a b c, s) = absurd (other_command (remux p a b c) (codes "show") (codes "bts" ∷ words) (unlike (codes "show") (codes "remux") refl refl) s.spelled)
bts_followed words (code p how name, s) = absurd (other_command (code p how name) (codes "show") (codes "bts" ∷ words) (unlike (codes "show") (codes "code") refl refl) s.spelled)
bts_followed words (receive how partial name, s) = absurd (other_command (receive how partial name) (codes "show") (codes "bts" ∷ words) (unlike (codes "show") (codes "receive") refl refl) s.spelled)
bts_followed words (sample number, s) = absurd (other_command (sample number) (codes "show") (codes "bts" ∷ words) (unlike (codes "show") (codes "sample") refl refl) s.spelled)
bts_followed words (show_cells how name, s) = absurd (bts_or_cells (same_head (same_tail (cells_spelled how name (codes "show" ∷ codes "bts" ∷ words) s.spelled))))
bts_followed words (show_bts mode guard name, s) = record {
  mode = mode;
  guard = guard;
  name = name;
  is = refl;
  some = s.command;
  words_are = same_tail (same_tail (bts_spelled mode guard name (codes "show" ∷ codes "bts" ∷ words) s.spelled));
}

-- the mode, the guard interval and the name follow one another
pub stuck_mode : (u : Unread) (place : ℕ) → IsStuck (BeginsWith IsAny (λ m. mode_word m ∷ [])) u place → IsStuck BtsLine u place
stuck_mode u place s =
    stuck_word IsAny mode_word BtsLine [] u u place (reads_none u) s (bts_words M1 G4 (codes "a"), bts_follows M1 G4 (codes "a") some_name)
    (λ ws f heads. (let b = bts_followed ws f in (b.mode, tt, guard_word b.guard ∷ input_words b.name, b.words_are)))

pub stuck_guard : (mode : Mode) (u v : Unread) (place : ℕ) → Reads (mode_word mode ∷ []) u v → IsStuck (BeginsWith IsAny (λ g. guard_word g ∷ [])) v place → IsStuck BtsLine u place
stuck_guard mode u v place reads s =
    stuck_word IsAny guard_word BtsLine (mode_word mode ∷ []) u v place reads s (guard_word G4 ∷ input_words (codes "a"), bts_follows mode G4 (codes "a") some_name)
    (λ ws f heads. (let b = bts_followed (mode_word mode ∷ ws) f in (b.guard, tt, input_words b.name, same_tail b.words_are)))

pub stuck_name : (mode : Mode) (guard : Guard) (u v : Unread) (place : ℕ) → Reads (told_words true mode guard) u v → IsStuck (BeginsWith IsName (λ name. (codes "IN=" ++ name) ∷ [])) v place → IsStuck BtsLine u place
stuck_name mode guard u v place reads s =
    stuck_word IsName (λ name. codes "IN=" ++ name) BtsLine (told_words true mode guard) u v place reads s (input_words (codes "a"), bts_follows mode guard (codes "a") some_name)
    (λ ws f heads. (let b = bts_followed (mode_word mode ∷ guard_word guard ∷ ws) f in (b.name, b.some, [], same_tail (same_tail b.words_are))))

-- a word is left behind them
pub bts_end : (mode : Mode) (guard : Guard) (name : Word) (u v : Unread) (place : ℕ) → IsName name → Reads (bts_words mode guard name) u v → place ≡ v.place → v.words ≢ [] → IsStuck BtsLine u place
bts_end mode guard name u v place some reads at left =
    stuck_end BtsLine (bts_words mode guard name) u v place reads at left (bts_follows mode guard name some)
    (λ tail f. (let b = bts_followed (bts_words mode guard name ++ tail) f in same_tail (same_tail (same_tail b.words_are))))

pub spells_bts : (mode : Mode) (guard : Guard) (name : Word) (words : List Word) → IsName name → words ≡ bts_words mode guard name → Spells (codes "show" ∷ codes "bts" ∷ words) (show_bts mode guard name)
spells_bts mode guard name words some e = record { command = some; spelled = subst (λ (ws : List Word). SpellCommand (show_bts mode guard name) (codes "show" ∷ codes "bts" ∷ ws)) (sym e) (spell_bts mode guard name) }

-- ---- frames of cells

-- whether words are corrected stands behind the input
abbrev pub Fixing : List Word → Type 0
Fixing = SomeOf fixing

cells_follow : (form : Form) (name : Word) (tail : List Word) → IsName name → Fixing tail → FollowsBoth (codes "show") (codes "cells") (form_words form ++ ((codes "IN=" ++ name) ∷ tail))
cells_follow form name tail some t =
    let how : Reading = record { form = form; fix = t.0 } in (
      show_cells how name,
      record { command = some; spelled = subst (λ (ws : List Word). SpellCommand (show_cells how name) (codes "show" ∷ codes "cells" ∷ (form_words form ++ ((codes "IN=" ++ name) ∷ ws)))) (sym (told_only (codes "fix") false tail t)) (spell_cells how name) },
    )

-- how a stream is read and a name, whose words these are
pub record IsShownCells (words : List Word) (c : Command) : Type 0 where
  pub how : Reading
  pub name : Word
  pub is : c ≡ show_cells how name
  pub some : IsName name
  pub words_are : words ≡ cells_words how name

pub cells_shown : (words : List Word) (f : FollowsBoth (codes "show") (codes "cells") words) → IsShownCells words f.0
cells_shown words (remux p a b c, s) = absurd (other_command (remux p a b c) (codes "show") (codes "cells" ∷ words) (unlike (codes "show") (codes "remux") refl refl) s.spelled)
cells_shown words (code p how name, s) = absurd (other_command (code p how name) (codes "show") (codes "cells" ∷ words) (unlike (codes "show") (codes "code") refl refl) s.spelled)
cells_shown words (receive how partial name, s) = absurd (other_command (receive how partial name) (codes "show") (codes "cells" ∷ words) (unlike (codes "show") (codes "receive") refl refl) s.spelled)
cells_shown words (sample number, s) = absurd (other_command (sample number) (codes "show") (codes "cells" ∷ words) (unlike (codes "show") (codes "sample") refl refl) s.spelled)
cells_shown words (show_bts mode guard name, s) = absurd (bts_or_cells (sym (same_head (same_tail (bts_spelled mode guard name (codes "show" ∷ codes "cells" ∷ words) s.spelled)))))
cells_shown words (show_cells how name, s) = record {
  how = how;
  name = name;
  is = refl;
  some = s.command;
  words_are = same_tail (same_tail (cells_spelled how name (codes "show" ∷ codes "cells" ∷ words) s.spelled));
}

cells_followed : (words : List Word) → FollowsBoth (codes "show") (codes "cells") words → IsCells Fixing words
cells_followed words f = (let r = cells_shown words f in record {
  form = r.how.form;
  name = r.name;
  tail = fix_words r.how.fix;
  some = r.some;
  tail_is = only_told (codes "fix") false r.how.fix (fix_words r.how.fix) (λ e. refl) refl;
  words_are = r.words_are;
})

-- the lines of a showing of cells
pub shown_lines : CellsLines (FollowsBoth (codes "show") (codes "cells")) Fixing
shown_lines = record { up = cells_follow; down = cells_followed; last = fix_words false; last_is = only_told (codes "fix") false false (fix_words false) (λ e. refl) refl }

pub spells_cells : (how : Reading) (name : Word) (words : List Word) → IsName name → words ≡ (form_words how.form ++ input_words name) ++ fix_words how.fix → Spells (codes "show" ∷ codes "cells" ∷ words) (show_cells how name)
spells_cells how name words some e = record {
  command = some;
  spelled = subst (λ (ws : List Word). SpellCommand (show_cells how name) (codes "show" ∷ codes "cells" ∷ ws)) (sym (e ∙ append_assoc (form_words how.form) (input_words name) (fix_words how.fix))) (spell_cells how name);
}
