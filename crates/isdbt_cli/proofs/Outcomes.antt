-- What the answers of the engines mean as answers of the program.
use Rattle.std.proofs.Common.{◌≡◌, ℕ, Bool, List, None, Some, Ok, Err, refl, sym, ap, ◌∙◌, subst, arith, inl, inr}
use Rattle.std.specs.declared.option.Option.{Option}
use Rattle.std.specs.declared.result.Result.{Result}
use Rattle.std.proofs.lemmas.Bool.{cases_lt}
use Rattle.isdbt_base.specs.Outcome.{IsOutcome}
use Rattle.edge_io.specs.declared.shelf.Seat.{Seat}
use Rattle.edge_io.specs.Causes.{Cause}
use Rattle.edge_io.specs.FrameAnswers.{FaultKind, frame_refused, read_failed, write_failed, no_memory, FrameCommand, Account, Refused, FaultAnswer, FaultCause, AnswerCause}
use Rattle.remux_core.specs.declared.fault.RemuxFault.TheVariants as remux_faults
use Rattle.remux_core.specs.Answers.{remux_kind}
use Rattle.coder_core.specs.declared.fault.CodeFault.TheVariants as code_faults
use Rattle.coder_core.specs.Answers.{code_kind}
use Rattle.seg_receiver.specs.declared.fault.ReceiveFault.TheVariants as receive_faults
use Rattle.seg_receiver.specs.ReceiveAnswers.{receive_kind}
use Rattle.sample.specs.declared.fault.SampleFault.TheVariants as sample_faults
use Rattle.sample.specs.Answers.{sample_kind}
use Rattle.isdbt_cli.specs.declared.fault.RunFault.{RunFault}
use Rattle.isdbt_cli.specs.declared.fault.RunFault.TheVariants.{Usage, BadSync, Truncated, HeadMisplaced, NoHead, WrongCount, BadTmcc, Unannounced, NotPartial, OpenFault, ReadFault, WriteFault, TooLong, NoMemory, BadHead}
use Rattle.isdbt_cli.specs.declared.fault.Outcome.{Outcome}
use Rattle.isdbt_cli.specs.declared.fault.Outcome.TheVariants.{Done, Fault}
use Rattle.setting_words.specs.SettingWords.{Word}
use Rattle.isdbt_cli.specs.Faults.{run_fault_of, run_fault_of_code, run_fault_of_receive, run_fault_of_sample}
use Rattle.isdbt_cli.specs.Run.{Names, AreSeated, SeatsAfter, outcome_of, EndsSo, OpenFailed, NothingRose}

-- ---- the faults of the engines among those of the program

-- of what kind a fault of an engine is, by the program's fault; usage and a failed open are none of an engine
abbrev pub engine_kind : RunFault → Option FaultKind
engine_kind (Usage word) = None
engine_kind (OpenFault seat) = None
engine_kind (ReadFault seat) = Some (read_failed seat)
engine_kind WriteFault = Some write_failed
engine_kind NoMemory = Some no_memory
engine_kind fault = Some frame_refused

-- an engine's faults keep their kind
abbrev pub KeepsKind : {F : Type 0} → (F → RunFault) → (F → FaultKind) → Type 0
KeepsKind {F} fault_of kind = (f : F) → engine_kind (fault_of f) ≡ Some (kind f)

pub remux_keeps : KeepsKind run_fault_of remux_kind
remux_keeps (remux_faults.BadSync seat packet) = refl
remux_keeps (remux_faults.Truncated seat over) = refl
remux_keeps (remux_faults.ReadFault seat) = refl
remux_keeps remux_faults.WriteFault = refl
remux_keeps remux_faults.TooLong = refl
remux_keeps remux_faults.NoMemory = refl

pub code_keeps : KeepsKind run_fault_of_code code_kind
code_keeps (code_faults.BadSync seat packet) = refl
code_keeps (code_faults.Truncated seat over) = refl
code_keeps (code_faults.HeadMisplaced frame slot) = refl
code_keeps code_faults.NoHead = refl
code_keeps (code_faults.WrongCount frame layer found) = refl
code_keeps (code_faults.ReadFault seat) = refl
code_keeps code_faults.WriteFault = refl
code_keeps code_faults.TooLong = refl
code_keeps code_faults.NoMemory = refl

pub receive_keeps : KeepsKind run_fault_of_receive receive_kind
receive_keeps (receive_faults.Truncated seat over) = refl
receive_keeps (receive_faults.BadHead frame byte) = refl
receive_keeps (receive_faults.BadTmcc frame reason) = refl
receive_keeps (receive_faults.Unannounced frame) = refl
receive_keeps (receive_faults.NotPartial frame) = refl
receive_keeps (receive_faults.ReadFault seat) = refl
receive_keeps receive_faults.WriteFault = refl
receive_keeps receive_faults.TooLong = refl
receive_keeps receive_faults.NoMemory = refl

pub sample_keeps : KeepsKind run_fault_of_sample sample_kind
sample_keeps sample_faults.WriteFault = refl
sample_keeps sample_faults.NoMemory = refl

-- one kind of fault is want of memory alone
memory_fault : (fault : RunFault) → engine_kind fault ≡ Some no_memory → fault ≡ NoMemory
memory_fault (Usage word) e = absurd (cc)
memory_fault (BadSync seat packet) e = absurd (cc)
memory_fault (Truncated seat over) e = absurd (cc)
memory_fault (HeadMisplaced frame slot) e = absurd (cc)
memory_fault NoHead e = absurd (cc)
memory_fault (WrongCount frame layer found) e = absurd (cc)
memory_fault (BadTmcc frame reason) e = absurd (cc)
memory_fault (Unannounced frame) e = absurd (cc)
memory_fault (NotPartial frame) e = absurd (cc)
memory_fault (OpenFault seat) e = absurd (cc)
memory_fault (ReadFault seat) e = absurd (cc)
memory_fault WriteFault e = absurd (cc)
memory_fault TooLong e = absurd (cc)
memory_fault NoMemory e = refl
memory_fault (BadHead frame byte) e = absurd (cc)

-- a fault that is none of an engine is no answer of one
no_engine : {F : Type 0} (fault_of : F → RunFault) (kind : F → FaultKind) (fault : RunFault) (r : Result ℕ F) → KeepsKind fault_of kind → engine_kind fault ≡ None → Fault fault ≡ outcome_of fault_of r → ⊥
no_engine fault_of kind fault (Ok m) keeps none e = cc
no_engine fault_of kind fault (Err f) keeps none e = (let same : fault ≡ fault_of f = cc in let is = keeps f in let other = ap engine_kind same in cc)

pub no_usage : {F : Type 0} (fault_of : F → RunFault) (kind : F → FaultKind) (unopened : Seat → Type 0) (answered : Result ℕ F → Type 0) (outcome : Outcome) (word : ℕ) → KeepsKind fault_of kind → EndsSo fault_of unopened answered outcome → outcome ≡ Fault (Usage word) → ⊥
no_usage fault_of kind unopened answered outcome word keeps (inl o) e = (let failed = o.1 in cc)
no_usage fault_of kind unopened answered outcome word keeps (inr r) e = no_engine fault_of kind (Usage word) r.0 keeps refl (sym e ∙ r.1)

-- an engine's fault is no failed open
pub not_unopened : {F : Type 0} (X : Type 0) (fault_of : F → RunFault) (kind : F → FaultKind) (fault : F) (given : RunFault) (seat : Seat) → KeepsKind fault_of kind → given ≡ fault_of fault → Fault given ≡ Fault (OpenFault seat) → X
not_unopened X fault_of kind fault given seat keeps is e = absurd (no_engine fault_of kind (OpenFault seat) (Err fault) keeps refl (sym e ∙ ap Fault is))

-- and it leaves the seats that were opened
seated_fault : (name : Names) (is_open : Seat → Bool) (given : RunFault) (kind : FaultKind) → engine_kind given ≡ Some kind → AreSeated name is_open → SeatsAfter name is_open (Fault given)
seated_fault name is_open (Usage word) kind e seats = seats
seated_fault name is_open (BadSync seat packet) kind e seats = seats
seated_fault name is_open (Truncated seat over) kind e seats = seats
seated_fault name is_open (HeadMisplaced frame slot) kind e seats = seats
seated_fault name is_open NoHead kind e seats = seats
seated_fault name is_open (WrongCount frame layer found) kind e seats = seats
seated_fault name is_open (BadTmcc frame reason) kind e seats = seats
seated_fault name is_open (Unannounced frame) kind e seats = seats
seated_fault name is_open (NotPartial frame) kind e seats = seats
seated_fault name is_open (OpenFault seat) kind e seats = absurd (cc)
seated_fault name is_open (ReadFault seat) kind e seats = seats
seated_fault name is_open WriteFault kind e seats = seats
seated_fault name is_open TooLong kind e seats = seats
seated_fault name is_open NoMemory kind e seats = seats
seated_fault name is_open (BadHead frame byte) kind e seats = seats

pub seated : {F : Type 0} (fault_of : F → RunFault) (kind : F → FaultKind) (name : Names) (is_open : Seat → Bool) (fault : F) (given : RunFault) → KeepsKind fault_of kind → given ≡ fault_of fault → AreSeated name is_open → SeatsAfter name is_open (Fault given)
seated fault_of kind name is_open fault given keeps is seats = seated_fault name is_open given (kind fault) (ap engine_kind is ∙ keeps fault) seats

-- ---- two outcomes of a command are the same

pub same_count : {F : Type 0} (refusal : ℕ → Option F) (is_there : ℕ → Bool) (m n : ℕ) (fault other : Option F) → IsOutcome refusal is_there m fault → IsOutcome refusal is_there n other → m ≡ n
same_count refusal is_there m n fault other a b =
    elim (cases_lt m n) [
      | inl less ↦ absurd (let passed = b.before m less in let gone = a.done (sym a.at ∙ passed.0) in let here = passed.1 in cc)
      | inr ge ↦ elim (cases_lt n m) [
        | inl less ↦ absurd (let passed = a.before n less in let gone = b.done (sym b.at ∙ passed.0) in let here = passed.1 in cc)
        | inr le ↦ omega (arith, ge, le)
      ]
    ]

pub no_refusal : {F : Type 0} (refusal : ℕ → Option F) (is_there : ℕ → Bool) (m n : ℕ) (fault : F) → IsOutcome refusal is_there m None → IsOutcome refusal is_there n (Some fault) → ⊥
no_refusal refusal is_there m n fault a b = (let same = same_count refusal is_there m n None (Some fault) a b in let at = b.at in let none = ap refusal (sym same) ∙ a.at in cc)

-- ---- where nothing of the outside failed

module _ {F : Type 0} (fault_of : F → RunFault) (kind : F → FaultKind) (keeps : KeepsKind fault_of kind) (c : FrameCommand F) (a : Account) (reads : Seat → Type 0) (name : Names) (before after : Option (List ℕ)) (shelf shelf' : Cause → ℕ) (sink sink' : ℕ)
    (named : (seat : Seat) → reads seat → (n : Word) × (name seat ≡ Some n)) (none : NothingRose name shelf shelf' sink sink') (P : Outcome → Type 0) (memory : P (Fault NoMemory)) (refused : (f : F) → Refused c a.at_most f before after → P (Fault (fault_of f))) where
  by_kind : (f : F) (k : FaultKind) → engine_kind (fault_of f) ≡ Some k → FaultAnswer c a before after f k → FaultCause reads shelf shelf' sink sink' k → P (Fault (fault_of f))
  by_kind f frame_refused is says cause = refused f says
  by_kind f (read_failed seat) is says cause = absurd (let n = named seat cause.0 in none.read seat n.0 n.1 cause.1)
  by_kind f write_failed is says cause = absurd (none.wrote cause.1)
  by_kind f no_memory is says cause = subst (λ g. P (Fault g)) (sym (memory_fault (fault_of f) is)) memory

  answers : (answered : Result ℕ F → Type 0) → ((m : ℕ) → answered (Ok m) → P (Done m)) → ((f : F) → answered (Err f) → FaultAnswer c a before after f (kind f)) → (r s : Result ℕ F) → outcome_of fault_of r ≡ outcome_of fault_of s → answered r → AnswerCause kind reads shelf shelf' sink sink' s
      → P (outcome_of fault_of r)
  answers answered done faults (Ok m) s e says cause = done m says
  answers answered done faults (Err f) (Ok m) e says cause = absurd (cc)
  answers answered done faults (Err f) (Err g) e says cause =
      let same : fault_of f ≡ fault_of g = cc in
      let one = keeps f in
      let two = keeps g in
      let both = ap engine_kind same in
      let kinds : kind g ≡ kind f = cc in
      by_kind f (kind f) one (faults f says) (subst (FaultCause reads shelf shelf' sink sink') kinds cause)

  -- the answers that are left: done, no memory, and a refusal
  pub quiet : (answered : Result ℕ F → Type 0) (outcome : Outcome) → ((m : ℕ) → answered (Ok m) → P (Done m)) → ((f : F) → answered (Err f) → FaultAnswer c a before after f (kind f))
      → EndsSo fault_of (λ seat. after ≡ before) answered outcome → EndsSo fault_of (OpenFailed name shelf shelf' sink sink') (AnswerCause kind reads shelf shelf' sink sink') outcome → P outcome
  quiet answered outcome done faults says (inl o) = absurd (none.opened o.0 o.2.word o.2.name_is o.2.rose)
  quiet answered outcome done faults (inl o) (inr s) = absurd (no_engine fault_of kind (OpenFault o.0) s.0 keeps refl (sym o.1 ∙ s.1))
  quiet answered outcome done faults (inr r) (inr s) = subst P (sym r.1) (answers answered done faults r.0 s.0 (sym r.1 ∙ s.1) r.2 s.2)
