-- The words of each command, and by which first word a command is told.
use Rattle.std.proofs.Common.{◌≡◌, ◌≢◌, ℕ, Bool, true, false, List, [], ◌∷◌, ◌++◌, None, Some, refl, sym, ap, ◌∙◌}
use Rattle.std.specs.Prelude.{codes, decimal}
use Rattle.std.specs.Str.{bytes_eq}
use Rattle.std.specs.declared.option.Option.{Option}
use Rattle.isdbt_base.specs.declared.kinds.Mode.{Mode}
use Rattle.isdbt_base.specs.declared.kinds.Guard.{Guard}
use Rattle.isdbt_base.specs.declared.stream.Writing.{Writing}
use Rattle.isdbt_base.specs.declared.stream.Reading.{Reading}
use Rattle.isdbt_base.specs.Plans.{Schedule}
use Rattle.isdbt_cli.specs.CommandLines.{SpellPlan, told_words, other_input_words, version_words, form_words, part_words, fix_words, Command, remux, code, receive, show_bts, show_cells, sample, SpellCommand}
use Rattle.setting_words.specs.SettingWords.{Word}
use Rattle.isdbt_cli.specs.Parsing.{named}
use Rattle.isdbt_cli.proofs.Transmissions.{same_head}

-- ---- the words of a command

named-b : (o : Option Word) → other_input_words (codes "B") o ≡ named (codes "B=") o
named-b None = refl
named-b (Some name) = refl

named-c : (o : Option Word) → other_input_words (codes "C") o ≡ named (codes "C=") o
named-c None = refl
named-c (Some name) = refl

abbrev pub names_words : Word → Option Word → Option Word → List Word
names_words a b c = (codes "A=" ++ a) ∷ (named (codes "B=") b ++ named (codes "C=") c)

abbrev pub input_words : Word → List Word
input_words name = (codes "IN=" ++ name) ∷ []

abbrev pub code_words : Writing → Word → List Word
code_words how name = (codes "IN=" ++ name) ∷ version_words how.v2

-- a receiving's, behind its input: whether reception is partial, and whether words are corrected
abbrev pub reception_words : Bool → Bool → List Word
reception_words partial fix = part_words partial ++ fix_words fix

abbrev pub receive_words : Bool → Bool → Word → List Word
receive_words partial fix name = (codes "IN=" ++ name) ∷ reception_words partial fix

pub spell_remux : (p : Schedule) (a : Word) (b c : Option Word) (plan : List Word) → SpellPlan p plan → SpellCommand (remux p a b c) (codes "remux" ∷ (plan ++ names_words a b c))
unfolding SpellCommand
spell_remux p a b c plan s = (plan, s, rw (← named-b b, ← named-c c) refl)

pub remux_spelled : (p : Schedule) (a : Word) (b c : Option Word) (words : List Word) → SpellCommand (remux p a b c) words
    → (plan : List Word) × SpellPlan p plan × (words ≡ codes "remux" ∷ (plan ++ names_words a b c))
unfolding SpellCommand
remux_spelled p a b c words s = (s.0, s.1, s.2 ∙ rw (← named-b b, ← named-c c) refl)

pub spell_code : (p : Schedule) (how : Writing) (name : Word) (plan : List Word) → SpellPlan p plan
    → SpellCommand (code p how name) (codes "code" ∷ (plan ++ code_words how name))
unfolding SpellCommand
spell_code p how name plan s = (plan, s, refl)

pub code_spelled : (p : Schedule) (how : Writing) (name : Word) (words : List Word) → SpellCommand (code p how name) words
    → (plan : List Word) × SpellPlan p plan × (words ≡ codes "code" ∷ (plan ++ code_words how name))
unfolding SpellCommand
code_spelled p how name words s = s

pub spell_receive : (how : Reading) (partial : Bool) (name : Word) → SpellCommand (receive how partial name) (codes "receive" ∷ (form_words how.form ++ receive_words partial how.fix name))
unfolding SpellCommand
spell_receive how partial name = refl

pub receive_spelled : (how : Reading) (partial : Bool) (name : Word) (words : List Word) → SpellCommand (receive how partial name) words → words ≡ codes "receive" ∷ (form_words how.form ++ receive_words partial how.fix name)
unfolding SpellCommand
receive_spelled how partial name words s = s

-- a showing's
abbrev pub bts_words : Mode → Guard → Word → List Word
bts_words mode guard name = told_words true mode guard ++ input_words name

abbrev pub cells_words : Reading → Word → List Word
cells_words how name = form_words how.form ++ ((codes "IN=" ++ name) ∷ fix_words how.fix)

pub spell_bts : (mode : Mode) (guard : Guard) (name : Word) → SpellCommand (show_bts mode guard name) (codes "show" ∷ codes "bts" ∷ bts_words mode guard name)
unfolding SpellCommand
spell_bts mode guard name = refl

pub bts_spelled : (mode : Mode) (guard : Guard) (name : Word) (words : List Word) → SpellCommand (show_bts mode guard name) words → words ≡ codes "show" ∷ codes "bts" ∷ bts_words mode guard name
unfolding SpellCommand
bts_spelled mode guard name words s = s

pub spell_cells : (how : Reading) (name : Word) → SpellCommand (show_cells how name) (codes "show" ∷ codes "cells" ∷ cells_words how name)
unfolding SpellCommand
spell_cells how name = refl

pub cells_spelled : (how : Reading) (name : Word) (words : List Word) → SpellCommand (show_cells how name) words → words ≡ codes "show" ∷ codes "cells" ∷ cells_words how name
unfolding SpellCommand
cells_spelled how name words s = s

pub spell_sample : (number : ℕ) → SpellCommand (sample number) (codes "sample" ∷ decimal number ∷ [])
unfolding SpellCommand
spell_sample number = refl

pub sample_spelled : (number : ℕ) (words : List Word) → SpellCommand (sample number) words → words ≡ codes "sample" ∷ decimal number ∷ []
unfolding SpellCommand
sample_spelled number words s = s

-- ---- the first word

abbrev pub name_of : Command → Word
name_of (remux p a b c) = codes "remux"
name_of (code p how name) = codes "code"
name_of (receive how partial name) = codes "receive"
name_of (show_bts mode guard name) = codes "show"
name_of (show_cells how name) = codes "show"
name_of (sample number) = codes "sample"

pub first_word : (c : Command) (words : List Word) → SpellCommand c words → (rest : List Word) × (words ≡ name_of c ∷ rest)
first_word (remux p a b c) words s = (let k = remux_spelled p a b c words s in (k.0 ++ names_words a b c, k.2))
first_word (code p how name) words s = (let k = code_spelled p how name words s in (k.0 ++ code_words how name, k.2))
first_word (receive how partial name) words s = (form_words how.form ++ receive_words partial how.fix name, receive_spelled how partial name words s)
first_word (show_bts mode guard name) words s = (codes "bts" ∷ bts_words mode guard name, bts_spelled mode guard name words s)
first_word (show_cells how name) words s = (codes "cells" ∷ cells_words how name, cells_spelled how name words s)
first_word (sample number) words s = (decimal number ∷ [], sample_spelled number words s)

-- words that are told apart differ
pub unlike : (v w : Word) → bytes_eq v w ≡ false → bytes_eq v v ≡ true → v ≢ w
unlike v w apart same e = absurd (let bad : true ≡ false = sym same ∙ ap (bytes_eq v) e ∙ apart in cc)

-- a command with another first word doesn't spell these words
pub other_command : (c : Command) (w : Word) (words : List Word) → w ≢ name_of c → SpellCommand c (w ∷ words) → ⊥
other_command c w words other s = other (same_head (first_word c (w ∷ words) s).1)

-- the words that two commands begin with are told apart
pub bts_or_cells : codes "bts" ≢ codes "cells"
bts_or_cells = unlike (codes "bts") (codes "cells") refl refl
