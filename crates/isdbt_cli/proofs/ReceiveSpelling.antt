-- The words of the command receive: what may follow the words that were read.
use Rattle.std.proofs.Common.{◌≡◌, ◌≢◌, Bool, true, false, List, [], ◌∷◌, ◌++◌, refl, sym, ap, ◌∙◌, subst, append_assoc}
use Rattle.std.specs.Prelude.{codes}
use Rattle.isdbt_base.specs.declared.stream.Form.{Form}
use Rattle.isdbt_base.specs.declared.stream.Reading.{Reading}
use Rattle.isdbt_cli.specs.CommandLines.{form_words, told_word, IsName, Command, remux, code, receive, show_bts, show_cells, sample, SpellCommand, Spells}
use Rattle.setting_words.specs.SettingWords.{Word}
use Rattle.isdbt_cli.specs.Parsing.{Follows, SomeOf}
use Rattle.isdbt_cli.proofs.Transmissions.{same_head, same_tail}
use Rattle.isdbt_cli.proofs.ToldWords.{told_word-injective, told_only, only_told}
use Rattle.isdbt_cli.proofs.CommandWords.{input_words, reception_words, receive_words, spell_receive, receive_spelled, unlike, other_command}
use Rattle.isdbt_cli.proofs.CellsSpelling.{IsCells, CellsLines}

-- ---- what stands behind the input

-- whether words are corrected
abbrev pub fixing : List (Word × Bool)
fixing = (codes "fix", false) ∷ []

-- whether reception is partial, and that
abbrev pub reception : List (Word × Bool)
reception = (codes "partial", false) ∷ fixing

abbrev pub Reception : List Word → Type 0
Reception = SomeOf reception

pub fix_is_new : codes "partial" ≢ codes "fix"
fix_is_new = unlike (codes "partial") (codes "fix") refl refl

-- these are the words of it
reception_tail : (partial fix : Bool) → Reception (reception_words partial fix)
reception_tail partial fix = (partial, told_word (codes "fix") fix, (λ e. refl), only_told (codes "fix") false fix (told_word (codes "fix") fix) (λ e. refl) refl, refl)

tail_reception : (tail : List Word) (t : Reception tail) → tail ≡ reception_words t.0 t.3.0
tail_reception tail t = t.4 ∙ ap (λ (rest : List Word). told_word (codes "partial") t.0 ++ rest) (told_only (codes "fix") false t.1 t.3)

no_partial : (fix : Bool) (rest : List Word) → told_word (codes "fix") fix ≡ codes "partial" ∷ rest → ⊥
no_partial true rest e = fix_is_new (sym (same_head e))
no_partial false rest e = absurd (cc)

pub same_reception : (partial fix partial' fix' : Bool) → reception_words partial fix ≡ reception_words partial' fix' → (partial ≡ partial') × (fix ≡ fix')
same_reception true fix true fix' e = (refl, told_word-injective (codes "fix") fix fix' (same_tail e))
same_reception false fix false fix' e = (refl, told_word-injective (codes "fix") fix fix' e)
same_reception true fix false fix' e = absurd (no_partial fix' (told_word (codes "fix") fix) (sym e))
same_reception false fix true fix' e = absurd (no_partial fix (told_word (codes "fix") fix') e)

-- ---- lines

pub spells : (how : Reading) (partial : Bool) (name : Word) (words : List Word) → IsName name → words ≡ (form_words how.form ++ input_words name) ++ reception_words partial how.fix → Spells (codes "receive" ∷ words) (receive how partial name)
spells how partial name words some e = record {
  command = some;
  spelled = subst (λ (ws : List Word). SpellCommand (receive how partial name) (codes "receive" ∷ ws)) (sym (e ∙ append_assoc (form_words how.form) (input_words name) (reception_words partial how.fix))) (spell_receive how partial name);
}

follows : (form : Form) (name : Word) (tail : List Word) → IsName name → Reception tail → Follows (codes "receive") (form_words form ++ ((codes "IN=" ++ name) ∷ tail))
follows form name tail some t =
    let how : Reading = record { form = form; fix = t.3.0 } in (
      receive how t.0 name,
      record { command = some; spelled = subst (λ (ws : List Word). SpellCommand (receive how t.0 name) (codes "receive" ∷ (form_words form ++ ((codes "IN=" ++ name) ∷ ws)))) (sym (tail_reception tail t)) (spell_receive how t.0 name) },
    )

-- how a stream is read, a name and whether reception is partial, whose words these are
pub record IsReceive (words : List Word) (c : Command) : Type 0 where
  pub how : Reading
  pub partial : Bool
  pub name : Word
  pub is : c ≡ receive how partial name
  pub some : IsName name
  pub words_are : words ≡ form_words how.form ++ receive_words partial how.fix name

pub received : (words : List Word) (f : Follows (codes "receive") words) → IsReceive words f.0
received words (remux p a b c, s) = absurd (other_command (remux p a b c) (codes "receive") words (unlike (codes "receive") (codes "remux") refl refl) s.spelled)
received words (code p how name, s) = absurd (other_command (code p how name) (codes "receive") words (unlike (codes "receive") (codes "code") refl refl) s.spelled)
received words (show_bts mode guard name, s) = absurd (other_command (show_bts mode guard name) (codes "receive") words (unlike (codes "receive") (codes "show") refl refl) s.spelled)
received words (show_cells how name, s) = absurd (other_command (show_cells how name) (codes "receive") words (unlike (codes "receive") (codes "show") refl refl) s.spelled)
received words (sample number, s) = absurd (other_command (sample number) (codes "receive") words (unlike (codes "receive") (codes "sample") refl refl) s.spelled)
received words (receive how partial name, s) = record {
  how = how;
  partial = partial;
  name = name;
  is = refl;
  some = s.command;
  words_are = same_tail (receive_spelled how partial name (codes "receive" ∷ words) s.spelled);
}

followed : (words : List Word) → Follows (codes "receive") words → IsCells Reception words
followed words f = (let r = received words f in record { form = r.how.form; name = r.name; tail = reception_words r.partial r.how.fix; some = r.some; tail_is = reception_tail r.partial r.how.fix; words_are = r.words_are })

-- the lines of a receiving
pub receive_lines : CellsLines (Follows (codes "receive")) Reception
receive_lines = record { up = follows; down = followed; last = reception_words false false; last_is = reception_tail false false }
