-- The words of the command sample: what may follow the words that were read.
use Rattle.std.proofs.Common.{◌≡◌, ◌≢◌, ℕ, List, [], ◌∷◌, refl, sym, subst, arith}
use Rattle.std.specs.Prelude.{codes, decimal}
use Rattle.isdbt_cli.specs.CommandLines.{IsSampleNumber, Command, remux, code, receive, show_bts, show_cells, sample, SpellCommand, Spells}
use Rattle.setting_words.specs.SettingWords.{Word}
use Rattle.isdbt_cli.specs.Parsing.{Unread, Reads, BeginsWith, IsStuck, Follows}
use Rattle.isdbt_cli.proofs.Stuck.{reads_none, stuck_word, stuck_end}
use Rattle.isdbt_cli.proofs.Transmissions.{same_tail}
use Rattle.isdbt_cli.proofs.CommandWords.{spell_sample, sample_spelled, unlike, other_command}

-- a number, whose word this is
pub record IsSample (words : List Word) (c : Command) : Type 0 where
  pub number : ℕ
  pub is : c ≡ sample number
  pub few : IsSampleNumber number
  pub words_are : words ≡ decimal number ∷ []

follows : (number : ℕ) → IsSampleNumber number → Follows (codes "sample") (decimal number ∷ [])
follows number few = (sample number, record { command = few; spelled = spell_sample number })

pub followed : (words : List Word) (f : Follows (codes "sample") words) → IsSample words f.0
followed words (remux p a b c, s) = absurd (other_command (remux p a b c) (codes "sample") words (unlike (codes "sample") (codes "remux") refl refl) s.spelled)
followed words (code p how name, s) = absurd (other_command (code p how name) (codes "sample") words (unlike (codes "sample") (codes "code") refl refl) s.spelled)
followed words (receive how partial name, s) = absurd (other_command (receive how partial name) (codes "sample") words (unlike (codes "sample") (codes "receive") refl refl) s.spelled)
followed words (show_bts mode guard name, s) = absurd (other_command (show_bts mode guard name) (codes "sample") words (unlike (codes "sample") (codes "show") refl refl) s.spelled)
followed words (show_cells how name, s) = absurd (other_command (show_cells how name) (codes "sample") words (unlike (codes "sample") (codes "show") refl refl) s.spelled)
followed words (sample number, s) = record { number = number; is = refl; few = s.command; words_are = same_tail (sample_spelled number (codes "sample" ∷ words) s.spelled) }

pub none_few : IsSampleNumber 0
none_few = omega arith

-- the number follows
pub stuck_number : (u : Unread) (place : ℕ) → IsStuck (BeginsWith IsSampleNumber (λ n. decimal n ∷ [])) u place → IsStuck (Follows (codes "sample")) u place
stuck_number u place s =
    stuck_word IsSampleNumber decimal (Follows (codes "sample")) [] u u place (reads_none u) s (decimal 0 ∷ [], follows 0 none_few)
    (λ ws f heads. (let b = followed ws f in (b.number, b.few, [], b.words_are)))

-- a word is left behind it
pub number_end : (number : ℕ) (u v : Unread) (place : ℕ) → IsSampleNumber number → Reads (decimal number ∷ []) u v → place ≡ v.place → v.words ≢ [] → IsStuck (Follows (codes "sample")) u place
number_end number u v place few reads at left =
    stuck_end (Follows (codes "sample")) (decimal number ∷ []) u v place reads at left (follows number few) (λ tail f. same_tail (followed (decimal number ∷ tail) f).words_are)

pub spells : (number : ℕ) (words : List Word) → IsSampleNumber number → words ≡ decimal number ∷ [] → Spells (codes "sample" ∷ words) (sample number)
spells number words few e = record { command = few; spelled = subst (λ (ws : List Word). SpellCommand (sample number) (codes "sample" ∷ ws)) (sym e) (spell_sample number) }
