-- The words of a command line, and which of them are a command.
use Rattle.std.specs.Prelude.{◌≡◌, ℕ, ◌+◌, ◌<◌, ◌≤◌, Bool, true, false, Option, Some, None, is_some, List, [], ◌∷◌, ◌++◌, length, take, codes, decimal}
use Rattle.isdbt_base.specs.declared.kinds.Mode.{Mode}
use Rattle.isdbt_base.specs.declared.kinds.Guard.{Guard}
use Rattle.isdbt_base.specs.Plans.{Transmission, Switch, Schedule, IsPlan, KeepsMode}
use Rattle.isdbt_base.specs.declared.stream.Writing.{Writing}
use Rattle.isdbt_base.specs.declared.stream.Reading.{Reading}
use Rattle.isdbt_base.specs.declared.stream.Form.{Form}
use Rattle.isdbt_base.specs.declared.stream.Form.TheVariants.{V1, V2}
use Rattle.setting_words.specs.SettingWords.{Word, mode_word, guard_word, setting_word}

-- ---- how a plan is spelled

-- mode, guard interval and setting
abbrev pub transmission_words : Transmission → List Word
transmission_words t = mode_word t.mode ∷ guard_word t.guard ∷ setting_word t.mode t.setting ∷ []

-- a frame as one word
abbrev pub frame_word : ℕ → Word
frame_word frame = codes "@" ++ decimal frame

-- mode and guard interval, if they are told
abbrev pub told_words : Bool → Mode → Guard → List Word
told_words true mode guard = mode_word mode ∷ guard_word guard ∷ []
told_words false mode guard = []

-- a switch's words: its frame, its mode and guard interval if they are told, and its setting in the mode after the switch
abbrev pub switch_words : Bool → Switch → List Word
switch_words told w = frame_word w.frame ∷ told_words told w.after.mode w.after.guard ++ setting_word w.after.mode w.after.setting ∷ []

-- this is sent in that mode and with that guard interval
abbrev pub IsIn : Mode → Guard → Transmission → Type 0
IsIn mode guard t = (t.mode ≡ mode) × (t.guard ≡ guard)

-- these words spell the switches behind this transmission: one after another, and a mode and a guard interval that are not told stay
abbrev pub SpellSwitches : Transmission → List Switch → List Word → Type 0
SpellSwitches t [] words = words ≡ []
SpellSwitches t (w ∷ ws) words = (told : Bool) × (rest : List Word) × (words ≡ switch_words told w ++ rest) × (told ≡ false → IsIn t.mode t.guard w.after) × SpellSwitches w.after ws rest

-- these words spell a plan: what frame 0 sends, and the switches
pub record SpellPlan (p : Schedule) (words : List Word) : Type 0 where
  pub behind : List Word
  pub first : words ≡ transmission_words p.first ++ behind
  pub switches : SpellSwitches p.first p.switches behind

-- ---- how inputs are named

abbrev pub input_word : Word → Word → Word
input_word seat name = seat ++ codes "=" ++ name

abbrev pub other_input_words : Word → Option Word → List Word
other_input_words seat None = []
other_input_words seat (Some name) = input_word seat name ∷ []

-- a name has at least one character
abbrev pub IsName : Word → Type 0
IsName name = 0 < length name

abbrev pub IsNameIfGiven : Option Word → Type 0
IsNameIfGiven None = Unit {0}
IsNameIfGiven (Some name) = IsName name

-- ---- words that may stand behind the input

-- a word, where it is told
abbrev pub told_word : Word → Bool → List Word
told_word word true = word ∷ []
told_word word false = []

-- version 2 of the stream that is written: version 1 is not told
abbrev pub version_words : Bool → List Word
version_words = told_word (codes "v2")

-- reception is partial
abbrev pub part_words : Bool → List Word
part_words = told_word (codes "partial")

-- TMCC words are corrected
abbrev pub fix_words : Bool → List Word
fix_words = told_word (codes "fix")

-- ---- the version of a stream of cells

-- a stream that is read is of version 1 where its mode and guard interval are told, and of version 2 where they are not
abbrev pub form_words : Form → List Word
form_words (V1 mode guard) = told_words true mode guard
form_words V2 = []

-- ---- commands

-- remux: a plan, and the names of the inputs of layers A, B and C; code: a plan, how the stream is written, and the name of its input; receive: how the stream is read, in version 1 with a mode and a guard interval, whether reception is partial, and the name of its input; show bts: a mode, a guard interval, and the name of its input; show cells: how the stream is read, and the name of its input; sample: a number
pub data Command : Type 0 where
  remux : Schedule → Word → Option Word → Option Word → Command
  code : Schedule → Writing → Word → Command
  receive : Reading → Bool → Word → Command
  show_bts : Mode → Guard → Word → Command
  show_cells : Reading → Word → Command
  sample : ℕ → Command

-- these words spell a command
unfoldable pub SpellCommand : Command → List Word → Type 0
SpellCommand (remux p a b c) words =
    (plan : List Word) × SpellPlan p plan × (words ≡ codes "remux" ∷ (plan ++ (input_word (codes "A") a ∷ (other_input_words (codes "B") b ++ other_input_words (codes "C") c))))
SpellCommand (code p how name) words =
    (plan : List Word) × SpellPlan p plan × (words ≡ codes "code" ∷ (plan ++ (input_word (codes "IN") name ∷ version_words how.v2)))
SpellCommand (receive how partial name) words = words ≡ codes "receive" ∷ (form_words how.form ++ (input_word (codes "IN") name ∷ (part_words partial ++ fix_words how.fix)))
SpellCommand (show_bts mode guard name) words = words ≡ codes "show" ∷ codes "bts" ∷ (told_words true mode guard ++ (input_word (codes "IN") name ∷ []))
SpellCommand (show_cells how name) words = words ≡ codes "show" ∷ codes "cells" ∷ (form_words how.form ++ (input_word (codes "IN") name ∷ fix_words how.fix))
SpellCommand (sample number) words = words ≡ codes "sample" ∷ decimal number ∷ []

-- the plan is accepted, and exactly its layers' inputs are named
pub record IsRemux (p : Schedule) (a : Word) (b c : Option Word) : Type 0 where
  pub plan : IsPlan p
  pub a_name : IsName a
  pub b_name : IsNameIfGiven b
  pub c_name : IsNameIfGiven c
  pub b_used : is_some b ≡ is_some p.first.setting.b
  pub c_used : is_some c ≡ is_some p.first.setting.c

-- the plan is accepted, in version 1 its switches keep the mode and the guard interval, and the input is named
pub record IsCode (p : Schedule) (how : Writing) (name : Word) : Type 0 where
  pub plan : IsPlan p
  pub keeps : how.v2 ≡ false → KeepsMode p.first p.switches
  pub input_name : IsName name

-- the number of a sample
abbrev pub IsSampleNumber : ℕ → Type 0
IsSampleNumber number = number ≤ 65535

abbrev pub IsCommand : Command → Type 0
IsCommand (remux p a b c) = IsRemux p a b c
IsCommand (code p how name) = IsCode p how name
IsCommand (receive how partial name) = IsName name
IsCommand (show_bts mode guard name) = IsName name
IsCommand (show_cells how name) = IsName name
IsCommand (sample number) = IsSampleNumber number

-- the words are some of an accepted command
pub record Spells (words : List Word) (c : Command) : Type 0 where
  pub command : IsCommand c
  pub spelled : SpellCommand c words

-- some accepted command's words begin with these
abbrev pub CanGoOn : List Word → Type 0
CanGoOn words = (c : Command) × (rest : List Word) × Spells (words ++ rest) c

-- words 0 to p begin no accepted list, those before p do; at the count of the words: they begin one, and are none
pub record IsFaultAt (words : List Word) (p : ℕ) : Type 0 where
  pub within : p ≤ length words
  pub before : CanGoOn (take p words)
  pub fault : p < length words → CanGoOn (take (p + 1) words) → ⊥
  pub short : p ≡ length words → (c : Command) → Spells words c → ⊥
