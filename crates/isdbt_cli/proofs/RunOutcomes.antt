-- What the answers to each command mean.
use Rattle.std.proofs.Common.{◌≡◌, ℕ, List, [], Bool, None, Some, Ok, Err, sym, ap, ◌∙◌, subst, inl, inr}
use Rattle.std.specs.Prelude.{◌↔◌, ◌==◌, if◌then◌else◌}
use Rattle.std.proofs.lemmas.List.{append-nil}
use Rattle.std.specs.declared.option.Option.{Option}
use Rattle.std.specs.declared.result.Result.{Result}
use Rattle.isdbt_base.specs.declared.kinds.Layer.{Layer}
use Rattle.isdbt_base.specs.Outcome.{product, IsOutcome}
use Rattle.isdbt_base.specs.Plans.{Schedule}
use Rattle.isdbt_base.specs.declared.stream.Writing.{Writing}
use Rattle.isdbt_base.specs.declared.stream.Reading.{Reading}
use Rattle.edge_io.specs.declared.shelf.Seat.{Seat}
use Rattle.edge_io.specs.declared.shelf.Seat.TheVariants as seats
use Rattle.edge_io.specs.Known.{append_known}
use Rattle.edge_io.specs.Causes.{Cause}
use Rattle.edge_io.specs.FrameAnswers.{FaultKind, LoneCommand, lone_account, Finished, LoneAnswer, LoneCause}
use Rattle.remux_core.specs.declared.fault.RemuxFault.{RemuxFault}
use Rattle.remux_core.specs.declared.fault.RemuxFault.TheVariants as remux_faults
use Rattle.remux_core.specs.Parts.{IsGood}
use Rattle.remux_core.specs.Answers.{remux_kind, remux_command, remux_account, IsInputSeat, RemuxAnswer}
use Rattle.remux_core.proofs.Refusing.{refusal-good}
use Rattle.coder_core.specs.declared.fault.CodeFault.{CodeFault}
use Rattle.coder_core.specs.CodeRefusals.{code_refusal, is_there, coded_frame}
use Rattle.coder_core.specs.Answers.{code_kind, code_command, show_command}
use Rattle.seg_receiver.specs.CellStream.{view_of}
use Rattle.seg_receiver.specs.declared.aim.Aim.TheVariants.{Lines}
use Rattle.seg_receiver.specs.Aims.{aim_of}
use Rattle.seg_receiver.specs.ReceiveRefusals.{receive_is_there, receive_refusal}
use Rattle.seg_receiver.specs.ReceiveAnswers.{receive_kind, receive_command}
use Rattle.sample.specs.SamplePlan.{sample_frames}
use Rattle.sample.specs.Answers.{sample_text, sample_kind, sample_command, no_account, SampleAnswer}
use Rattle.isdbt_cli.specs.declared.fault.Outcome.{Outcome}
use Rattle.isdbt_cli.specs.declared.fault.Outcome.TheVariants.{Done, Fault}
use Rattle.isdbt_cli.specs.declared.fault.RunFault.{RunFault}
use Rattle.isdbt_cli.specs.declared.fault.RunFault.TheVariants.{Usage, NoMemory}
use Rattle.isdbt_cli.specs.CommandLines.{Command, remux, code, receive, show_bts, show_cells, sample, IsRemux, IsCommand, Spells, IsFaultAt}
use Rattle.setting_words.specs.SettingWords.{Word}
use Rattle.isdbt_cli.specs.Chain.{IsDoneWith, received_for}
use Rattle.isdbt_cli.specs.Faults.{run_fault_of, run_fault_of_code, run_fault_of_receive, run_fault_of_sample}
use Rattle.isdbt_cli.specs.FrameLimit.{frame_limit}
use Rattle.isdbt_cli.specs.Run.{layer_names, lone_name, no_names, names_of, SeatsAfter, OpenFailed, outcome_of, EndsSo, AnswerOf, CauseOf, NothingRose, RefusesNone, IsDoneOrNoMemory, IsFree}
use Rattle.isdbt_cli.proofs.OnePlace.{no_place, one_place}
use Rattle.isdbt_cli.proofs.NamedInputs.{used_name}
use Rattle.isdbt_cli.proofs.Outcomes.{KeepsKind, remux_keeps, code_keeps, receive_keeps, sample_keeps, no_usage, same_count, no_refusal, quiet}

-- ---- usage

-- a command isn't refused for its words
not_usage : (c : Command) (shelf shelf' : Cause → ℕ) (sink sink' : ℕ) (outcome : Outcome) (word : ℕ) → CauseOf c shelf shelf' sink sink' outcome → outcome ≡ Fault (Usage word) → ⊥
not_usage (remux p a b c) shelf shelf' sink sink' outcome word cause e = no_usage run_fault_of remux_kind _ _ outcome word remux_keeps cause e
not_usage (code p how name) shelf shelf' sink sink' outcome word cause e = no_usage run_fault_of_code code_kind _ _ outcome word code_keeps cause e
not_usage (receive how partial name) shelf shelf' sink sink' outcome word cause e = no_usage run_fault_of_receive receive_kind _ _ outcome word receive_keeps cause e
not_usage (show_bts mode guard name) shelf shelf' sink sink' outcome word cause e = no_usage run_fault_of_code code_kind _ _ outcome word code_keeps cause e
not_usage (show_cells how name) shelf shelf' sink sink' outcome word cause e = no_usage run_fault_of_receive receive_kind _ _ outcome word receive_keeps cause e
not_usage (sample number) shelf shelf' sink sink' outcome word cause e = no_usage run_fault_of_sample sample_kind _ _ outcome word sample_keeps cause e

pub ok_usage : (words : List Word) (c : Command) (shelf shelf' : Cause → ℕ) (sink sink' : ℕ) (outcome : Outcome) (word : ℕ) → Spells words c → CauseOf c shelf shelf' sink sink' outcome → (outcome ≡ Fault (Usage word)) ↔ IsFaultAt words word
ok_usage words c shelf shelf' sink sink' outcome word s cause = (λ e. absurd (not_usage c shelf shelf' sink sink' outcome word cause e), λ f. absurd (no_place words c word s f))

pub fault_usage : (words : List Word) (place word : ℕ) → IsFaultAt words place → (Fault (Usage place) ≡ Fault (Usage word)) ↔ IsFaultAt words word
fault_usage words place word f =
    (λ e. (let same : place ≡ word = cc in subst (IsFaultAt words) same f), λ g. ap (λ n. Fault (Usage n)) (one_place words place word f g))

pub untouched : (X : Type 0) (c : Command) (shelf shelf' : Cause → ℕ) (sink sink' : ℕ) (outcome : Outcome) (word : ℕ) → CauseOf c shelf shelf' sink sink' outcome → outcome ≡ Fault (Usage word) → X
untouched X c shelf shelf' sink sink' outcome word cause e = absurd (not_usage c shelf shelf' sink sink' outcome word cause e)

-- ---- the seats that are read have names

layer_named : (p : Schedule) (a : Word) (b c : Option Word) → IsRemux p a b c → (seat : Seat) → IsInputSeat p seat → (n : Word) × (layer_names a b c seat ≡ Some n)
layer_named p a b c r seat reads = (let n = used_name p a b c reads.0 r reads.1 in (n.0, ap (layer_names a b c) reads.2 ∙ n.1))

lone_named : (name : Word) (seat : Seat) → seat ≡ seats.In → (n : Word) × (lone_name name seat ≡ Some n)
lone_named name seat reads = (name, ap (lone_name name) reads)

-- ---- no refusal and no fault of the outside leave one answer and want of memory

answer_done : (how : Writing) (p : Schedule) (input : List ℕ) (before after left : Option (List ℕ)) (m : ℕ) (r : Result ℕ CodeFault) → outcome_of run_fault_of_code r ≡ Done m → LoneAnswer code_kind (code_command how p input frame_limit) before after left r
    → Finished (code_command how p input frame_limit) m before after left
answer_done how p input before after left m (Ok k) same says = (let count : k ≡ m = cc in subst (λ i. Finished (code_command how p input frame_limit) i before after left) count says)
answer_done how p input before after left m (Err f) same says = absurd (cc)

-- of so many frames only the last writes
last_alone : (text : List ℕ) → product (λ f. if f == 14 then text else []) sample_frames ≡ text
unfolding product
last_alone text = append-nil text

module _ (holds : Word → Option (List ℕ)) (before after : Option (List ℕ)) (left : Seat → Option (List ℕ)) (shelf shelf' : Cause → ℕ) (sink sink' : ℕ) (outcome : Outcome) where
  -- a command over one input that refuses nothing
  lone : {F : Type 0} (fault_of : F → RunFault) (kind : F → FaultKind) → KeepsKind fault_of kind → (c : LoneCommand F) (name : Word) → NothingRose (lone_name name) shelf shelf' sink sink' → ((f : ℕ) → c.frames.refusal f ≡ None)
      → EndsSo fault_of (λ seat. after ≡ before) (LoneAnswer kind c before after (left seats.In)) outcome → EndsSo fault_of (OpenFailed (lone_name name) shelf shelf' sink sink') (LoneCause kind shelf shelf' sink sink') outcome → IsDoneOrNoMemory outcome
  lone fault_of kind keeps c name none free says cause =
      quiet fault_of kind keeps c.frames (lone_account c (left seats.In)) (λ seat. seat ≡ seats.In) (lone_name name) before after shelf shelf' sink sink'
      (lone_named name) none IsDoneOrNoMemory tt (λ f r. absurd (let at = r.ended.outcome.at in let fine = free r.frame in cc))
      (LoneAnswer kind c before after (left seats.In)) outcome (λ m done. tt) (λ f fault. fault) says cause

  -- a sample answers in one of two ways
  sampled_so : (number : ℕ) (P : Outcome → Type 0) → P (Fault NoMemory) → ((m : ℕ) → SampleAnswer number before after (Ok m) → P (Done m)) → AnswerOf (sample number) holds before after left outcome → CauseOf (sample number) shelf shelf' sink sink' outcome
      → NothingRose no_names shelf shelf' sink sink' → P outcome
  sampled_so number P memory done says cause none =
      quiet run_fault_of_sample sample_kind sample_keeps (sample_command number) no_account (λ seat. ⊥) no_names before after shelf shelf' sink sink'
      (λ seat bad. absurd bad) none P memory (λ f r. absurd (let at = r.ended.outcome.at in cc)) (SampleAnswer number before after) outcome done (λ f fault. fault) says cause

  pub complete : (c : Command) → IsCommand c → AnswerOf c holds before after left outcome → CauseOf c shelf shelf' sink sink' outcome → NothingRose (names_of c) shelf shelf' sink sink' → RefusesNone c holds → IsDoneOrNoMemory outcome
  complete (remux p a b n) is says cause none free =
      quiet run_fault_of remux_kind remux_keeps (remux_command p free.0 frame_limit) (remux_account p free.0 frame_limit left) (IsInputSeat p) (layer_names a b n) before after shelf shelf' sink sink'
      (layer_named p a b n is) none IsDoneOrNoMemory tt (λ f r. absurd (let at = r.ended.outcome.at in let fine = free.2 r.frame in cc))
      (RemuxAnswer p free.0 frame_limit before after left) outcome (λ m done. tt) (λ f fault. fault) (says free.0 free.1) cause
  complete (code p how name) is says cause none free = lone run_fault_of_code code_kind code_keeps (code_command how p free.0 frame_limit) name none free.2 (says free.0 free.1) cause
  complete (receive how partial name) is says cause none free =
      lone run_fault_of_receive receive_kind receive_keeps (receive_command (view_of how free.0) (aim_of partial) free.0 frame_limit) name none free.2 (says free.0 free.1) cause
  complete (show_bts mode guard name) is says cause none free = lone run_fault_of_code code_kind code_keeps (show_command mode guard free.0 frame_limit) name none free.2 (says free.0 free.1) cause
  complete (show_cells how name) is says cause none free =
      lone run_fault_of_receive receive_kind receive_keeps (receive_command (view_of how free.0) Lines free.0 frame_limit) name none free.2 (says free.0 free.1) cause
  complete (sample number) is says cause none free = sampled_so number IsDoneOrNoMemory tt (λ m done. tt) says cause none

  -- the text of a sample
  pub sampled : (number : ℕ) → AnswerOf (sample number) holds before after left outcome → CauseOf (sample number) shelf shelf' sink sink' outcome → NothingRose no_names shelf shelf' sink sink'
      → IsDoneWith sample_frames (sample_text number) before after outcome
  sampled number says cause none =
      sampled_so number (IsDoneWith sample_frames (sample_text number) before after) tt
      (λ m done. (done.count, done.ended.written ∙ ap (λ k. append_known before (product (sample_command number).frame k)) done.count ∙ ap (append_known before) (last_alone (sample_text number)))) says cause none

  -- good packets leave too many frames too
  too_long_alone : (fault : RemuxFault) → fault ≡ remux_faults.TooLong → IsFree (Fault (run_fault_of fault))
  too_long_alone fault is = subst (λ f. IsFree (Fault (run_fault_of f))) (sym is) tt

  pub good : (p : Schedule) (a : Word) (b n : Option Word) (input : Layer → List ℕ) → IsRemux p a b n → EndsSo run_fault_of (λ seat. after ≡ before) (RemuxAnswer p input frame_limit before after left) outcome → CauseOf (remux p a b n) shelf shelf' sink sink' outcome
      → NothingRose (layer_names a b n) shelf shelf' sink sink' → ((x : Layer) → IsGood (input x)) → IsFree outcome
  good p a b n input is says cause none fine =
      quiet run_fault_of remux_kind remux_keeps (remux_command p input frame_limit) (remux_account p input frame_limit left) (IsInputSeat p) (layer_names a b n) before after shelf shelf' sink sink'
      (layer_named p a b n is) none IsFree tt (λ f r. too_long_alone f (refusal-good p input frame_limit r.frame f fine r.ended.outcome.at))
      (RemuxAnswer p input frame_limit before after left) outcome (λ m done. tt) (λ f fault. fault) says cause

  -- ---- what is coded and received

  -- all frames were passed: just these bytes were written
  pub coded : (how : Writing) (p : Schedule) (name : Word) (input : List ℕ) (count : ℕ) (cells : List ℕ) → EndsSo run_fault_of_code (λ seat. after ≡ before) (LoneAnswer code_kind (code_command how p input frame_limit) before after (left seats.In)) outcome → CauseOf (code p how name) shelf shelf' sink sink' outcome
      → NothingRose (lone_name name) shelf shelf' sink sink' → IsOutcome (code_refusal p input frame_limit) (is_there p input) count None → product (coded_frame how p input) count ≡ cells → IsDoneWith count cells before after outcome
  coded how p name input count cells says cause none all same =
      quiet run_fault_of_code code_kind code_keeps (code_command how p input frame_limit).frames (lone_account (code_command how p input frame_limit) (left seats.In)) (λ seat. seat ≡ seats.In) (lone_name name) before after shelf shelf' sink sink'
      (lone_named name) none (IsDoneWith count cells before after) tt (λ f r. absurd (no_refusal (code_refusal p input frame_limit) (is_there p input) count r.frame f all r.ended.outcome))
      (LoneAnswer code_kind (code_command how p input frame_limit) before after (left seats.In)) outcome
      (λ m done. (let e = same_count (code_refusal p input frame_limit) (is_there p input) m count None None done.ended.outcome all in (e, done.ended.written ∙ ap (λ k. append_known before (product (coded_frame how p input) k)) e ∙ ap (append_known before) same)))
      (λ f fault. fault) says cause

  pub given : (how : Reading) (partial : Bool) (name : Word) (stream : List ℕ) (count : ℕ) (packets : List ℕ) → EndsSo run_fault_of_receive (λ seat. after ≡ before) (LoneAnswer receive_kind (receive_command (view_of how stream) (aim_of partial) stream frame_limit) before after (left seats.In)) outcome → CauseOf (receive how partial name) shelf shelf' sink sink' outcome
      → NothingRose (lone_name name) shelf shelf' sink sink' → IsOutcome (receive_refusal (view_of how stream) (aim_of partial) frame_limit) (receive_is_there (view_of how stream)) count None → received_for partial (view_of how stream) count ≡ packets → IsDoneWith count packets before after outcome
  given how partial name stream count packets says cause none all same =
      let v = view_of how stream in
      quiet run_fault_of_receive receive_kind receive_keeps (receive_command v (aim_of partial) stream frame_limit).frames (lone_account (receive_command v (aim_of partial) stream frame_limit) (left seats.In)) (λ seat. seat ≡ seats.In) (lone_name name) before after shelf shelf' sink sink'
      (lone_named name) none (IsDoneWith count packets before after) tt (λ f r. absurd (no_refusal (receive_refusal v (aim_of partial) frame_limit) (receive_is_there v) count r.frame f all r.ended.outcome))
      (LoneAnswer receive_kind (receive_command v (aim_of partial) stream frame_limit) before after (left seats.In)) outcome
      (λ m done. (let e = same_count (receive_refusal v (aim_of partial) frame_limit) (receive_is_there v) m count None None done.ended.outcome all in (e, done.ended.written ∙ ap (λ k. append_known before (received_for partial v k)) e ∙ ap (append_known before) same)))
      (λ f fault. fault) says cause

  -- a coding that is done came to the end of its frames
  pub coded_done : (how : Writing) (p : Schedule) (input : List ℕ) (m : ℕ) → EndsSo run_fault_of_code (λ seat. after ≡ before) (LoneAnswer code_kind (code_command how p input frame_limit) before after (left seats.In)) outcome → outcome ≡ Done m → Finished (code_command how p input frame_limit) m before after (left seats.In)
  coded_done how p input m (inl o) e = absurd (let failed = o.1 in cc)
  coded_done how p input m (inr r) e = answer_done how p input before after (left seats.In) m r.0 (sym r.1 ∙ e) r.2

-- ---- the command that the words spell

pub same_answer : (c d : Command) (holds : Word → Option (List ℕ)) (before after : Option (List ℕ)) (left : Seat → Option (List ℕ)) (outcome : Outcome) → c ≡ d → AnswerOf c holds before after left outcome → AnswerOf d holds before after left outcome
same_answer c d holds before after left outcome same says = subst (λ e. AnswerOf e holds before after left outcome) same says

pub same_cause : (c d : Command) (shelf shelf' : Cause → ℕ) (sink sink' : ℕ) (outcome : Outcome) → c ≡ d → CauseOf c shelf shelf' sink sink' outcome → CauseOf d shelf shelf' sink sink' outcome
same_cause c d shelf shelf' sink sink' outcome same cause = subst (λ e. CauseOf e shelf shelf' sink sink' outcome) same cause

pub same_seats : (c d : Command) (is_open : Seat → Bool) (outcome : Outcome) → c ≡ d → SeatsAfter (names_of c) is_open outcome → SeatsAfter (names_of d) is_open outcome
same_seats c d is_open outcome same says = subst (λ e. SeatsAfter (names_of e) is_open outcome) same says
