-- What an answer of the program says.
use Rattle.std.specs.Prelude.{◌≡◌, ◌⊎◌, ℕ, ◌<◌, ◌≤◌, List, [], Bool, true, false, None, Some, Ok, Err}
use Rattle.std.specs.declared.option.Option.{Option}
use Rattle.std.specs.declared.result.Result.{Result}
use Rattle.isdbt_base.specs.declared.kinds.Layer.{Layer}
use Rattle.edge_io.specs.declared.shelf.Seat.{Seat}
use Rattle.edge_io.specs.declared.shelf.Seat.TheVariants.{A, B, C, In}
use Rattle.edge_io.specs.Causes.{Rose, Cause, Opening, Reading}
use Rattle.edge_io.specs.FrameAnswers.{LoneAnswer, LoneCause, AnswerCause}
use Rattle.remux_core.specs.Refusals.{seat_of, refusal}
use Rattle.remux_core.specs.Answers.{RemuxAnswer, RemuxCause}
use Rattle.coder_core.specs.CodeRefusals.{code_refusal}
use Rattle.coder_core.specs.Answers.{code_kind, code_command, show_command}
use Rattle.seg_receiver.specs.CellStream.{view_of}
use Rattle.seg_receiver.specs.declared.aim.Aim.TheVariants.{Lines}
use Rattle.seg_receiver.specs.Aims.{aim_of}
use Rattle.seg_receiver.specs.ReceiveRefusals.{receive_refusal}
use Rattle.seg_receiver.specs.ReceiveAnswers.{receive_kind, receive_command}
use Rattle.sample.specs.Answers.{sample_kind, SampleAnswer}
use Rattle.isdbt_cli.specs.declared.fault.Outcome.{Outcome}
use Rattle.isdbt_cli.specs.declared.fault.Outcome.TheVariants.{Done, Fault}
use Rattle.isdbt_cli.specs.declared.fault.RunFault.{RunFault}
use Rattle.isdbt_cli.specs.declared.fault.RunFault.TheVariants.{Usage, OpenFault, TooLong, NoMemory}
use Rattle.isdbt_cli.specs.Faults.{run_fault_of, run_fault_of_code, run_fault_of_receive, run_fault_of_sample}
use Rattle.isdbt_cli.specs.FrameLimit.{frame_limit}
use Rattle.isdbt_cli.specs.CommandLines.{Command, remux, code, receive, show_bts, show_cells, sample, Spells, IsFaultAt}
use Rattle.setting_words.specs.SettingWords.{Word}

-- ---- inputs

-- the name of the input that a command opens at each seat, if it opens one
abbrev pub Names : Type 0
Names = Seat → Option Word

abbrev pub layer_names : Word → Option Word → Option Word → Names
layer_names a b c A = Some a
layer_names a b c B = b
layer_names a b c C = c
layer_names a b c In = None

abbrev pub lone_name : Word → Names
lone_name name A = None
lone_name name B = None
lone_name name C = None
lone_name name In = Some name

abbrev pub no_names : Names
no_names seat = None

abbrev pub names_of : Command → Names
names_of (remux p a b c) = layer_names a b c
names_of (code p how name) = lone_name name
names_of (receive how partial name) = lone_name name
names_of (show_bts mode guard name) = lone_name name
names_of (show_cells how name) = lone_name name
names_of (sample number) = no_names

-- the named inputs of the layers hold these bytes, and a layer without a name has none
pub record Hold (holds : Word → Option (List ℕ)) (name : Names) (input : Layer → List ℕ) : Type 0 where
  pub named : (x : Layer) (n : Word) → name (seat_of x) ≡ Some n → holds n ≡ Some (input x)
  pub others : (x : Layer) → name (seat_of x) ≡ None → input x ≡ []

-- ---- seats

-- each seat with a name is open, and each without one is not
pub record AreSeated (name : Names) (is_open : Seat → Bool) : Type 0 where
  pub named : (seat : Seat) (n : Word) → name seat ≡ Some n → is_open seat ≡ true
  pub others : (seat : Seat) → name seat ≡ None → is_open seat ≡ false

-- the inputs are opened, each with what its name holds
pub record AreOpened (name : Names) (holds : Word → Option (List ℕ)) (left : Seat → Option (List ℕ)) (is_open : Seat → Bool) : Type 0 where
  pub seats : AreSeated name is_open
  pub content : (seat : Seat) (n : Word) → name seat ≡ Some n → left seat ≡ holds n

-- seats are opened in this order
abbrev pub turn_of : Seat → ℕ
turn_of A = 0
turn_of B = 1
turn_of C = 2
turn_of In = 3

-- this seat has a name and was not opened, and those behind it neither; the named ones before it were
pub record OpenStopped (name : Names) (is_open : Seat → Bool) (seat : Seat) : Type 0 where
  pub word : Word
  pub name_is : name seat ≡ Some word
  pub earlier : (other : Seat) (n : Word) → name other ≡ Some n → turn_of other < turn_of seat → is_open other ≡ true
  pub later : (other : Seat) → turn_of seat ≤ turn_of other → is_open other ≡ false
  pub others : (other : Seat) → name other ≡ None → is_open other ≡ false

-- which seats are open after each answer to a command
abbrev pub SeatsAfter : Names → (Seat → Bool) → Outcome → Type 0
SeatsAfter name is_open (Fault (OpenFault seat)) = OpenStopped name is_open seat
SeatsAfter name is_open outcome = AreSeated name is_open

-- ---- answers

-- the outcome of an engine's answer
abbrev pub outcome_of : {F : Type 0} → (F → RunFault) → Result ℕ F → Outcome
outcome_of fault_of (Ok m) = Done m
outcome_of fault_of (Err fault) = Fault (fault_of fault)

-- a command ended so: an input couldn't be opened, of which this is said, or its engine gave an answer, of which that is said
abbrev pub EndsSo : {F : Type 0} → (F → RunFault) → (Seat → Type 0) → (Result ℕ F → Type 0) → Outcome → Type 0
EndsSo {F} fault_of unopened answered outcome = ((seat : Seat) × (outcome ≡ Fault (OpenFault seat)) × unopened seat) ⊎ ((r : Result ℕ F) × (outcome ≡ outcome_of fault_of r) × answered r)

-- what an answer to a command says, whatever its inputs hold, by what was written before and after and by what the seats have left: what its engine's answer says
abbrev pub AnswerOf : Command → (Word → Option (List ℕ)) → Option (List ℕ) → Option (List ℕ) → (Seat → Option (List ℕ)) → Outcome → Type 0
AnswerOf (remux p a b c) holds before after left outcome = (input : Layer → List ℕ) → Hold holds (layer_names a b c) input
    → EndsSo run_fault_of (λ seat. after ≡ before) (RemuxAnswer p input frame_limit before after left) outcome
AnswerOf (code p how name) holds before after left outcome = (input : List ℕ) → holds name ≡ Some input
    → EndsSo run_fault_of_code (λ seat. after ≡ before) (LoneAnswer code_kind (code_command how p input frame_limit) before after (left In)) outcome
AnswerOf (receive how partial name) holds before after left outcome = (stream : List ℕ) → holds name ≡ Some stream
    → EndsSo run_fault_of_receive (λ seat. after ≡ before) (LoneAnswer receive_kind (receive_command (view_of how stream) (aim_of partial) stream frame_limit) before after (left In)) outcome
AnswerOf (show_bts mode guard name) holds before after left outcome = (input : List ℕ) → holds name ≡ Some input
    → EndsSo run_fault_of_code (λ seat. after ≡ before) (LoneAnswer code_kind (show_command mode guard input frame_limit) before after (left In)) outcome
AnswerOf (show_cells how name) holds before after left outcome = (stream : List ℕ) → holds name ≡ Some stream
    → EndsSo run_fault_of_receive (λ seat. after ≡ before) (LoneAnswer receive_kind (receive_command (view_of how stream) Lines stream frame_limit) before after (left In)) outcome
AnswerOf (sample number) holds before after left outcome = EndsSo run_fault_of_sample (λ seat. after ≡ before) (SampleAnswer number before after) outcome

-- ---- causes

-- an input couldn't be opened: the count of this seat and its name rose, and nothing failed to be written
pub record OpenFailed (name : Names) (shelf shelf' : Cause → ℕ) (sink sink' : ℕ) (seat : Seat) : Type 0 where
  pub word : Word
  pub name_is : name seat ≡ Some word
  pub rose : Rose (shelf (Opening seat word)) (shelf' (Opening seat word))
  pub kept : sink' ≡ sink

-- when each answer to a command may come: when its engine's answer may
abbrev pub CauseOf : Command → (Cause → ℕ) → (Cause → ℕ) → ℕ → ℕ → Outcome → Type 0
CauseOf (remux p a b c) shelf shelf' sink sink' outcome = EndsSo run_fault_of (OpenFailed (layer_names a b c) shelf shelf' sink sink') (RemuxCause p shelf shelf' sink sink') outcome
CauseOf (code p how name) shelf shelf' sink sink' outcome = EndsSo run_fault_of_code (OpenFailed (lone_name name) shelf shelf' sink sink') (LoneCause code_kind shelf shelf' sink sink') outcome
CauseOf (receive how partial name) shelf shelf' sink sink' outcome = EndsSo run_fault_of_receive (OpenFailed (lone_name name) shelf shelf' sink sink') (LoneCause receive_kind shelf shelf' sink sink') outcome
CauseOf (show_bts mode guard name) shelf shelf' sink sink' outcome = EndsSo run_fault_of_code (OpenFailed (lone_name name) shelf shelf' sink sink') (LoneCause code_kind shelf shelf' sink sink') outcome
CauseOf (show_cells how name) shelf shelf' sink sink' outcome = EndsSo run_fault_of_receive (OpenFailed (lone_name name) shelf shelf' sink sink') (LoneCause receive_kind shelf shelf' sink sink') outcome
CauseOf (sample number) shelf shelf' sink sink' outcome = EndsSo run_fault_of_sample (OpenFailed no_names shelf shelf' sink sink') (AnswerCause sample_kind (λ seat. ⊥) shelf shelf' sink sink') outcome

-- the words have a fault, and nothing else happened
pub record IsUsage (words : List Word) (shelf shelf' : Cause → ℕ) (sink sink' : ℕ) (outcome : Outcome) : Type 0 where
  pub word : ℕ
  pub answer : outcome ≡ Fault (Usage word)
  pub fault : IsFaultAt words word
  pub shelf_kept : shelf' ≡ shelf
  pub sink_kept : sink' ≡ sink

-- usage comes where the words have a fault, and each other answer where they are a command and it may come
abbrev pub RunCause : List Word → (Cause → ℕ) → (Cause → ℕ) → ℕ → ℕ → Outcome → Type 0
RunCause words shelf shelf' sink sink' outcome = IsUsage words shelf shelf' sink sink' outcome ⊎ ((c : Command) × Spells words c × CauseOf c shelf shelf' sink sink' outcome)

-- no count of the outside rose of the named inputs and of the output
pub record NothingRose (name : Names) (shelf shelf' : Cause → ℕ) (sink sink' : ℕ) : Type 0 where
  pub opened : (seat : Seat) (n : Word) → name seat ≡ Some n → Rose (shelf (Opening seat n)) (shelf' (Opening seat n)) → ⊥
  pub read : (seat : Seat) (n : Word) → name seat ≡ Some n → Rose (shelf (Reading seat)) (shelf' (Reading seat)) → ⊥
  pub wrote : Rose sink sink' → ⊥

-- ---- no refusal

-- the inputs are told, and no frame of the command is refused
abbrev pub RefusesNone : Command → (Word → Option (List ℕ)) → Type 0
RefusesNone (remux p a b c) holds = (input : Layer → List ℕ) × Hold holds (layer_names a b c) input × ((f : ℕ) → refusal p input frame_limit f ≡ None)
RefusesNone (code p how name) holds = (input : List ℕ) × (holds name ≡ Some input) × ((f : ℕ) → code_refusal p input frame_limit f ≡ None)
RefusesNone (receive how partial name) holds = (stream : List ℕ) × (holds name ≡ Some stream) × ((f : ℕ) → receive_refusal (view_of how stream) (aim_of partial) frame_limit f ≡ None)
RefusesNone (show_bts mode guard name) holds = (input : List ℕ) × (holds name ≡ Some input) × ((f : ℕ) → (show_command mode guard input frame_limit).frames.refusal f ≡ None)
RefusesNone (show_cells how name) holds = (stream : List ℕ) × (holds name ≡ Some stream) × ((f : ℕ) → receive_refusal (view_of how stream) Lines frame_limit f ≡ None)
RefusesNone (sample number) holds = Unit {0}

-- the answers where no frame is refused and nothing of the outside failed
abbrev pub IsDoneOrNoMemory : Outcome → Type 0
IsDoneOrNoMemory (Done m) = Unit {0}
IsDoneOrNoMemory (Fault NoMemory) = Unit {0}
IsDoneOrNoMemory (Fault fault) = ⊥

-- the answers that no packet and no fault of the outside explains
abbrev pub IsFree : Outcome → Type 0
IsFree (Done m) = Unit {0}
IsFree (Fault TooLong) = Unit {0}
IsFree (Fault NoMemory) = Unit {0}
IsFree (Fault fault) = ⊥
