-- How words are read: the words that are left.
use Rattle.std.specs.Prelude.{◌≡◌, ℕ, ◌+◌, ◌<◌, ◌≤◌, Bool, true, false, Option, Some, None, option_map, List, [], ◌∷◌, ◌++◌, length, take, codes}
use Rattle.isdbt_base.specs.declared.kinds.Mode.{Mode}
use Rattle.isdbt_base.specs.declared.kinds.Guard.{Guard}
use Rattle.isdbt_base.specs.declared.stream.Form.{Form}
use Rattle.isdbt_base.specs.declared.stream.Form.TheVariants.{V1, V2}
use Rattle.isdbt_base.specs.Parameters.{Parameters, IsAccepted}
use Rattle.isdbt_base.specs.Plans.{Transmission, Switch, Schedule, SameLayers, IsPlan}
use Rattle.isdbt_base.specs.Epochs.{last_start, last_sent}
use Rattle.isdbt_base.specs.Switching.{with_switch}
use Rattle.isdbt_cli.specs.declared.command.Command.{Command as Parsed}
use Rattle.isdbt_cli.specs.declared.command.Command.TheVariants.{Remux, Code, Receive, ShowBts, ShowCells, Sample}
use Rattle.isdbt_cli.specs.CommandLines.{frame_word, told_words, IsIn, SpellPlan, told_word, Command, remux, code, receive, show_bts, show_cells, sample, Spells}
use Rattle.setting_words.specs.SettingWords.{Word, mode_word, guard_word, setting_word}

-- words still to be read, and the place of the first of them
pub record Unread : Type 0 where
  pub place : ℕ
  pub words : List Word

-- these words were read
pub record Reads (read : List Word) (old new : Unread) : Type 0 where
  pub split : old.words ≡ read ++ new.words
  pub place : new.place ≡ old.place + length read

-- words that begin with the text of a valid value, whatever follows
abbrev pub BeginsWith : {X : Type 0} → (X → Type 0) → (X → List Word) → List Word → Type 0
BeginsWith {X} Valid text words = (x : X) × Valid x × (rest : List Word) × (words ≡ text x ++ rest)

-- some list of the language begins with the words before this place, and none with those and the next word, or the end
pub record IsStuck (Language : List Word → Type 0) (unread : Unread) (place : ℕ) : Type 0 where
  pub front : List Word
  pub rest : List Word
  pub split : unread.words ≡ front ++ rest
  pub place_is : place ≡ unread.place + length front
  pub goes_on : (tail : List Word) × Language (front ++ tail)
  pub stuck : (tail : List Word) → Language (front ++ tail) → take 1 tail ≡ take 1 rest → ⊥

-- any value
abbrev pub IsAny : {X : Type 0} → X → Type 0
IsAny x = Unit {0}

-- words that follow the first word of a command
abbrev pub Follows : Word → List Word → Type 0
Follows first words = (c : Command) × Spells (first ∷ words) c

-- words that follow the first two words of a command
abbrev pub FollowsBoth : Word → Word → List Word → Type 0
FollowsBoth first second words = Follows first (second ∷ words)

-- the command that the program's value stands for
abbrev pub command_of : Parsed → Command
command_of (Remux plan a b c) = remux plan a.now (option_map (λ x. x.now) b) (option_map (λ x. x.now) c)
command_of (Code plan how name) = code plan how name.now
command_of (Receive how partial name) = receive how partial name.now
command_of (ShowBts mode guard name) = show_bts mode guard name.now
command_of (ShowCells how name) = show_cells how name.now
command_of (Sample number) = sample number

-- a named input, if it is given: the seat's text and the name
abbrev pub named : Word → Option Word → List Word
named seat None = []
named seat (Some name) = (seat ++ name) ∷ []

-- ---- mode and guard interval, where they may be told

-- words begin with this word
abbrev pub StartsWith : Word → List Word → Type 0
StartsWith word words = take 1 words ≡ word ∷ []

-- the words of a mode and a guard interval were read; or nothing was read, and no mode is next
abbrev pub ReadsTold : Option (Mode × Guard) → Unread → Unread → Type 0
ReadsTold None old new = (new ≡ old) × ((n : Mode) → StartsWith (mode_word n) new.words → ⊥)
ReadsTold (Some told) old new = Reads (told_words true told.0 told.1) old new

-- a mode was read, and the word behind it, at this place, is no guard interval
pub record IsStuckAtGuard (unread : Unread) (place : ℕ) : Type 0 where
  pub mode : Mode
  pub behind : Unread
  pub reads : Reads (mode_word mode ∷ []) unread behind
  pub place_is : place ≡ behind.place
  pub never : (g : Guard) → StartsWith (guard_word g) behind.words → ⊥

-- the version of a stream that is read, by what is told
abbrev pub told_by : Form → Option (Mode × Guard)
told_by (V1 mode guard) = Some (mode, guard)
told_by V2 = None

-- ---- plans

-- the words of a mode and a guard interval were read, or none: then those before stay, and no mode is next
pub record ReadsMode (mode : Mode) (guard : Guard) (m : Mode) (g : Guard) (old new : Unread) : Type 0 where
  pub told : Bool
  pub reads : Reads (told_words told m g) old new
  pub kept : told ≡ false → (m ≡ mode) × (g ≡ guard)
  pub next : told ≡ false → (n : Mode) → StartsWith (mode_word n) new.words → ⊥

-- what stands behind the frame of a switch
pub record Change : Type 0 where
  pub told : Bool
  pub after : Transmission

abbrev pub change_words : Change → List Word
change_words c = told_words c.told c.after.mode c.after.guard ++ setting_word c.after.mode c.after.setting ∷ []

-- this may stand there, with the layers of this setting, behind that mode and guard interval
pub record IsChange (first : Parameters) (mode : Mode) (guard : Guard) (c : Change) : Type 0 where
  pub accepted : IsAccepted c.after.setting
  pub layers : SameLayers first c.after.setting
  pub kept : c.told ≡ false → IsIn mode guard c.after

-- a frame that may follow a frame
abbrev pub IsLater : ℕ → ℕ → Type 0
IsLater last frame = (last < frame) × (frame ≤ 16777215)

-- one more switch was read
pub record AddsSwitch (p q : Schedule) (old new : Unread) : Type 0 where
  pub frame : ℕ
  pub change : Change
  pub later : IsLater (last_start p) frame
  pub valid : IsChange p.first.setting (last_sent p).mode (last_sent p).guard change
  pub reads : Reads (frame_word frame ∷ change_words change) old new
  pub is : q ≡ with_switch p (record { frame = frame; after = change.after })

-- nothing was read, and the next word is no frame that may follow
pub record EndsPlan (p q : Schedule) (old new : Unread) : Type 0 where
  pub kept : q ≡ p
  pub stays : new ≡ old
  pub next : (frame : ℕ) → IsLater (last_start p) frame → StartsWith (frame_word frame) old.words → ⊥

abbrev pub ReadsSwitch : Bool → Schedule → Schedule → Unread → Unread → Type 0
ReadsSwitch true = AddsSwitch
ReadsSwitch false = EndsPlan

-- a frame that may follow was read, and behind it the words get stuck
pub record IsStuckInSwitch (p : Schedule) (unread : Unread) (place : ℕ) : Type 0 where
  pub frame : ℕ
  pub behind : Unread
  pub later : IsLater (last_start p) frame
  pub reads : Reads (frame_word frame ∷ []) unread behind
  pub stuck : IsStuck (BeginsWith (IsChange p.first.setting (last_sent p).mode (last_sent p).guard) change_words) behind place

-- these words spell an accepted plan
pub record SpellsPlan (p : Schedule) (words : List Word) : Type 0 where
  pub plan : IsPlan p
  pub spelled : SpellPlan p words

-- the words of such a plan were read
pub record ReadsPlan (p : Schedule) (old new : Unread) : Type 0 where
  pub read : List Word
  pub spells : SpellsPlan p read
  pub reads : Reads read old new

-- the next word is no frame at which the plan takes one more switch
abbrev pub HasNoFrame : Schedule → Unread → Type 0
HasNoFrame p unread = (w : Switch) → IsPlan (with_switch p w) → StartsWith (frame_word w.frame) unread.words → ⊥

-- the first word of the two commands with a plan
abbrev pub planned : Bool → Word
planned false = codes "remux"
planned true = codes "code"

-- ---- words that may stand

-- a word was read where it was next, and else nothing
abbrev pub ReadsIf : Word → Bool → Unread → Unread → Type 0
ReadsIf word true old new = Reads (word ∷ []) old new
ReadsIf word false old new = (new ≡ old) × (StartsWith word old.words → ⊥)

-- the last words of a line are some of these in this order: each may stand, and must where it is wanted
abbrev pub SomeOf : List (Word × Bool) → List Word → Type 0
SomeOf [] words = words ≡ []
SomeOf (first ∷ more) words = (told : Bool) × (rest : List Word) × (told ≡ false → first.1 ≡ false) × SomeOf more rest × (words ≡ told_word first.0 told ++ rest)
