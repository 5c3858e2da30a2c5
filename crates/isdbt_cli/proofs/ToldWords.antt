-- Words that may stand at the end of a line.
use Rattle.std.proofs.Common.{◌≡◌, ◌≢◌, ℕ, Bool, true, false, List, [], ◌∷◌, ◌++◌, take, refl, sym, ap, ◌∙◌, subst}
use Rattle.std.specs.Prelude.{not}
use Rattle.std.specs.Str.{bytes_eq}
use Rattle.std.proofs.lemmas.List.{append-nil}
use Rattle.std.proofs.lemmas.Slice.Eq.{bytes_eq-Decides}
use Rattle.isdbt_cli.specs.CommandLines.{told_word}
use Rattle.setting_words.specs.SettingWords.{Word}
use Rattle.isdbt_cli.specs.Parsing.{Unread, Reads, IsStuck, StartsWith, ReadsIf, SomeOf}
use Rattle.isdbt_cli.proofs.Stuck.{stuck_here, stuck_behind, stuck_end, reads_none}
use Rattle.isdbt_cli.proofs.Transmissions.{same_head, same_tail}

-- two words that are told to differ, and to be the same
pub differ : (r : Bool) (v w : Word) → r ≡ not (bytes_eq v w) → r ≡ true → v ≢ w
differ r v w is told same = absurd (let e = (bytes_eq-Decides v w).1 same in let bad : true ≡ false = sym told ∙ is ∙ ap not e in cc)

pub agree : (r : Bool) (v w : Word) → r ≡ not (bytes_eq v w) → r ≡ false → v ≡ w
agree r v w is told = (bytes_eq-Decides v w).0 (not-false (bytes_eq v w) (sym is ∙ told))
  where
    not-false : (b : Bool) → not b ≡ false → b ≡ true
    not-false true e = refl
    not-false false e = absurd (cc)

-- ---- one word

pub told_word-injective : (word : Word) (a b : Bool) → told_word word a ≡ told_word word b → a ≡ b
told_word-injective word true true e = refl
told_word-injective word true false e = absurd (cc)
told_word-injective word false true e = absurd (cc)
told_word-injective word false false e = refl

-- what was left before a word was read
pub read_if : (word : Word) (told : Bool) (u v : Unread) → ReadsIf word told u v → u.words ≡ told_word word told ++ v.words
read_if word true u v reads = reads.split
read_if word false u v reads = ap (λ (x : Unread). x.words) (sym reads.0)

-- ---- languages of them

-- a word is none of these
abbrev pub IsNew : Word → List (Word × Bool) → Type 0
IsNew word [] = Unit {0}
IsNew word (first ∷ more) = (word ≢ first.0) × IsNew word more

-- all of them stand
pub all_told : (words : List (Word × Bool)) → (line : List Word) × SomeOf words line
all_told [] = ([], refl)
all_told (first ∷ more) = (let rest = all_told more in (first.0 ∷ rest.0, (true, rest.0, (λ e. absurd (cc)), rest.1, refl)))

-- the only one
pub told_only : (word : Word) (wanted : Bool) (line : List Word) (s : SomeOf ((word, wanted) ∷ []) line) → line ≡ told_word word s.0
told_only word wanted line s = s.4 ∙ ap (λ rest. told_word word s.0 ++ rest) s.3 ∙ append-nil (told_word word s.0)

pub only_told : (word : Word) (wanted told : Bool) (line : List Word) → (told ≡ false → wanted ≡ false) → line ≡ told_word word told → SomeOf ((word, wanted) ∷ []) line
only_told word wanted told line free e = (told, [], free, refl, e ∙ sym (append-nil (told_word word told)))

-- a line of them doesn't begin with another word
other_first : (word : Word) (words : List (Word × Bool)) (line rest : List Word) → IsNew word words → SomeOf words line → line ≡ word ∷ rest → ⊥
other_first word [] line rest new s e = (let bad = sym s ∙ e in cc)
other_first word (first ∷ more) line rest new s e = go s.0 s.4 (λ is. other_first word more s.1 rest new.1 s.3 is)
  where
    go : (told : Bool) → line ≡ told_word first.0 told ++ s.1 → (s.1 ≡ word ∷ rest → ⊥) → ⊥
    go true is behind = new.0 (same_head (sym e ∙ is))
    go false is behind = behind (sym is ∙ e)

-- what such a line begins with, cut in a place
begins : (front rest tail more : List Word) (word : Word) → front ++ tail ≡ word ∷ more → take 1 tail ≡ take 1 rest → take 1 (front ++ rest) ≡ word ∷ []
begins [] rest tail more word e heads = sym heads ∙ ap (take 1) e
begins (first ∷ front) rest tail more word e heads = ap (λ (x : Word). x ∷ []) (same_head e)

-- ---- where they get stuck

-- a word is left behind them
pub left_behind : (u : Unread) (place : ℕ) → place ≡ u.place → u.words ≢ [] → IsStuck (SomeOf []) u place
left_behind u place at left = stuck_end (SomeOf []) [] u u place (reads_none u) at left refl (λ tail e. e)

module _ (word : Word) (wanted : Bool) (more : List (Word × Bool)) where
  behind_told : (rest : List Word) → IsNew word more → SomeOf ((word, wanted) ∷ more) (word ∷ rest) → SomeOf more rest
  behind_told rest new s = go s.0 s.1 s.3 s.4
    where
      go : (told : Bool) (behind : List Word) → SomeOf more behind → word ∷ rest ≡ told_word word told ++ behind → SomeOf more rest
      go true behind some e = subst (SomeOf more) (sym (same_tail e)) some
      go false behind some e = absurd (other_first word more behind rest new some (sym e))

  -- the word isn't next, and need not be
  not_told : (u : Unread) (place : ℕ) → wanted ≡ false → (StartsWith word u.words → ⊥) → IsStuck (SomeOf more) u place → IsStuck (SomeOf ((word, wanted) ∷ more)) u place
  not_told u place free other s = record {
    front = s.front;
    rest = s.rest;
    split = s.split;
    place_is = s.place_is;
    goes_on = (s.goes_on.0, (false, s.front ++ s.goes_on.0, (λ e. free), s.goes_on.1, refl));
    stuck = λ tail line heads. go tail heads line.0 line.1 line.3 line.4;
  }
    where
      go : (tail : List Word) → take 1 tail ≡ take 1 s.rest → (told : Bool) (behind : List Word) → SomeOf more behind → s.front ++ tail ≡ told_word word told ++ behind → ⊥
      go tail heads true behind some e = other (ap (take 1) s.split ∙ begins s.front s.rest tail behind word e heads)
      go tail heads false behind some e = s.stuck tail (subst (SomeOf more) (sym e) some) heads

  -- where what stands behind it gets stuck
  pub stuck_after : (told : Bool) (u v : Unread) (place : ℕ) → IsNew word more → ReadsIf word told u v → (told ≡ false → wanted ≡ false) → IsStuck (SomeOf more) v place → IsStuck (SomeOf ((word, wanted) ∷ more)) u place
  stuck_after true u v place new reads free s = stuck_behind (SomeOf more) (SomeOf ((word, wanted) ∷ more)) (word ∷ []) u v place reads (λ ws some. (true, ws, (λ e. absurd (cc)), some, refl)) (λ ws line. behind_told ws new line) s
  stuck_after false u v place new reads free s = not_told u place (free refl) reads.1 (subst (λ (x : Unread). IsStuck (SomeOf more) x place) reads.0 s)

  -- the word is wanted, and isn't next
  pub stuck_wanted : (u : Unread) (place : ℕ) → place ≡ u.place → (StartsWith word u.words → ⊥) → wanted ≡ true → IsStuck (SomeOf ((word, wanted) ∷ more)) u place
  stuck_wanted u place at other must =
      stuck_here (SomeOf ((word, wanted) ∷ more)) [] u u place (reads_none u) at (all_told ((word, wanted) ∷ more)) (λ ws line heads. go ws heads line.0 line.1 line.2 line.4)
    where
      go : (ws : List Word) → take 1 ws ≡ take 1 u.words → (told : Bool) (behind : List Word) → (told ≡ false → wanted ≡ false) → ws ≡ told_word word told ++ behind → ⊥
      go ws heads true behind free e = other (sym heads ∙ ap (take 1) e)
      go ws heads false behind free e = (let bad = sym must ∙ free refl in cc)
