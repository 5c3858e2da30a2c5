-- The words of the command code: what may follow the words that were read.
use Rattle.std.proofs.Common.{◌≡◌, ℕ, Bool, true, false, List, [], ◌∷◌, ◌++◌, take, refl, sym, ap, subst}
use Rattle.std.specs.Prelude.{codes}
use Rattle.isdbt_base.specs.Plans.{Schedule, KeepsMode}
use Rattle.isdbt_base.specs.declared.stream.Writing.{Writing}
use Rattle.isdbt_cli.specs.CommandLines.{version_words, IsName, code, SpellCommand, Spells}
use Rattle.setting_words.specs.SettingWords.{Word}
use Rattle.isdbt_cli.specs.Parsing.{Unread, Reads, BeginsWith, IsStuck, Follows, SpellsPlan, HasNoFrame, SomeOf}
use Rattle.isdbt_cli.proofs.Stuck.{stuck_behind}
use Rattle.isdbt_cli.proofs.ToldWords.{told_only, only_told}
use Rattle.isdbt_cli.proofs.Transmissions.{same_tail}
use Rattle.isdbt_cli.proofs.CommandWords.{input_words, code_words, spell_code}
use Rattle.isdbt_cli.proofs.PlanLines.{some_inputs, line_follows, follows_line, line_behind, inputs_behind, inputs_next}

-- ---- behind a plan

-- what may follow the words of a plan
abbrev pub Line : List Word → List Word → Type 0
Line read words = Follows (codes "code") (read ++ words)

-- the name of the input
pub follows_some : (p : Schedule) (read : List Word) → SpellsPlan p read → (more : List Word) × Line read more
follows_some p read s =
    let n = some_inputs true p in
    (n.0, line_follows true (read ++ n.0) (record { p = p; read = read; spells = s; rest = n.0; inputs = n.1; words_are = refl }))

pub name_follows : (p : Schedule) (read : List Word) (v : Unread) → SpellsPlan p read → HasNoFrame p v → (ws : List Word) → Line read ws
    → take 1 ws ≡ take 1 v.words → BeginsWith IsName (λ name. (codes "IN=" ++ name) ∷ []) ws
name_follows p read v s none ws f heads =
    let n = inputs_next true p ws v (line_behind true p read ws s (follows_line true (read ++ ws) f)) none heads in
    (n.name, n.input_name, version_words n.how.v2, n.words_are)

-- what stands behind the input
abbrev pub version : Bool → List (Word × Bool)
version wanted = (codes "v2", wanted) ∷ []

-- the version of the stream, which is wanted just where the plan doesn't keep its mode and guard interval
module _ (p : Schedule) (read : List Word) (name : Word) (wanted : Bool) (s : SpellsPlan p read) where
  follows_version : IsName name → (wanted ≡ false → KeepsMode p.first p.switches) → (ws : List Word) → SomeOf (version wanted) ws → Line read (input_words name ++ ws)
  follows_version some keeps ws v =
      let how : Writing = record { v2 = v.0 } in
      line_follows true (read ++ ((codes "IN=" ++ name) ∷ ws)) (record {
        p = p;
        read = read;
        spells = s;
        rest = code_words how name;
        inputs = record { how = how; name = name; keeps = λ e. keeps (v.2 e); input_name = some; words_are = refl };
        words_are = ap (λ (zs : List Word). read ++ ((codes "IN=" ++ name) ∷ zs)) (told_only (codes "v2") wanted ws v);
      })

  version_follows : (KeepsMode p.first p.switches → wanted ≡ false) → (ws : List Word) → Line read (input_words name ++ ws) → SomeOf (version wanted) ws
  version_follows keeps ws f =
      let words : List Word = (codes "IN=" ++ name) ∷ ws in
      let n = inputs_behind true p words (line_behind true p read words s (follows_line true (read ++ words) f)) refl in
      only_told (codes "v2") wanted n.how.v2 ws (λ e. keeps (n.keeps e)) (same_tail n.words_are)

  -- where it gets stuck, the line does
  pub stuck_version : IsName name → (wanted ≡ false → KeepsMode p.first p.switches) → (KeepsMode p.first p.switches → wanted ≡ false)
      → (u v w : Unread) (place : ℕ) → Reads read u v → Reads (input_words name) v w → IsStuck (SomeOf (version wanted)) w place → IsStuck (Follows (codes "code")) u place
  stuck_version some told keeps u v w place reads named stuck =
      stuck_behind (Line read) (Follows (codes "code")) read u v place reads (λ ws f. f) (λ ws f. f)
      (stuck_behind (SomeOf (version wanted)) (Line read) (input_words name) v w place named (follows_version some told) (version_follows keeps) stuck)

pub spells : (p : Schedule) (how : Writing) (read : List Word) (name : Word) (words : List Word) → SpellsPlan p read → (how.v2 ≡ false → KeepsMode p.first p.switches)
    → IsName name → words ≡ read ++ code_words how name → Spells (codes "code" ∷ words) (code p how name)
spells p how read name words s keeps some e = record {
  command = record { plan = s.plan; keeps = keeps; input_name = some };
  spelled = subst (λ (ws : List Word). SpellCommand (code p how name) (codes "code" ∷ ws)) (sym e) (spell_code p how name read s.spelled);
}
