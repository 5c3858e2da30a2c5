-- Frames passed and written, one after another.
use Rattle.std.proofs.Common.{◌≡◌, ℕ, ◌+◌, true, false, List, [], ◌++◌, take, refl, ap, sym, ◌∙◌, subst, arith, inl, inr}
use Rattle.std.specs.Prelude.{Some, None, Ok, Err}
use Rattle.std.specs.declared.result.Result.{Result}
use Rattle.std.specs.declared.option.Option.{Option}
use Rattle.std.proofs.lemmas.Bool.{cases_lt}
use Rattle.std.proofs.lemmas.List.{append-nil}
use Rattle.isdbt_base.specs.Outcome.{product}
use Rattle.isdbt_base.proofs.Products.{product-none, product-more}
use Rattle.edge_io.specs.Known.{append_known}
use Rattle.edge_io.specs.declared.shelf.Seat.{Seat}
use Rattle.edge_io.specs.declared.shelf.Seat.TheVariants as seats
use Rattle.edge_io.specs.Causes.{Rose, Cause, Reading}
use Rattle.edge_io.specs.FrameAnswers.{FaultKind, frame_refused, read_failed, write_failed, no_memory, FrameCommand, Passed, Wrote, Ended, Refused, FaultAnswer, LoneCommand, TookAtMost, lone_account, LoneAnswer, FaultCause, AnswerCause, LoneCause, ReadingFault, ReadingCause, FaultRoom, AnswerRoom}
use Rattle.edge_io.proofs.Known.{append_known_twice}

append_known_nil : (known : Option (List ℕ)) → append_known known [] ≡ known
append_known_nil None = refl
append_known_nil (Some bytes) = ap Some (append-nil bytes)

-- ---- written

pub wrote-none : {F : Type 0} (c : FrameCommand F) (before : Option (List ℕ)) → Wrote c 0 before before
wrote-none c before = sym (ap (append_known before) (product-none c.frame) ∙ append_known_nil before)

pub wrote-more : {F : Type 0} (c : FrameCommand F) (f : ℕ) (before mid after : Option (List ℕ)) → Wrote c f before mid → after ≡ append_known mid (c.frame f) → Wrote c (f + 1) before after
wrote-more c f before mid after so_far wrote =
    wrote ∙ ap (λ m. append_known m (c.frame f)) so_far
    ∙ append_known_twice before (product c.frame f) (c.frame f)
    ∙ ap (append_known before) (sym (product-more c.frame f))

pub wrote_part : {F : Type 0} (c : FrameCommand F) (f n : ℕ) (before mid after : Option (List ℕ)) → Wrote c f before mid → after ≡ append_known mid (take n (c.frame f))
    → after ≡ append_known before (product c.frame f ++ take n (c.frame f))
wrote_part c f n before mid after so_far wrote =
    wrote ∙ ap (λ m. append_known m (take n (c.frame f))) so_far ∙ append_known_twice before (product c.frame f) (take n (c.frame f))

-- ---- passed

pub passed-none : {F : Type 0} (c : FrameCommand F) → Passed c 0
passed-none c f less = absurd (omega (arith, less))

pub passed-more : {F : Type 0} (c : FrameCommand F) (f : ℕ) → Passed c f → c.refusal f ≡ None → c.is_there f ≡ true → Passed c (f + 1)
passed-more c f so_far fine is g less =
    elim (cases_lt g f) [
      | inl below ↦ so_far g below
      | inr above ↦ (let e : f ≡ g = omega (arith, above, less) in subst (λ h. (c.refusal h ≡ None) × (c.is_there h ≡ true)) e (fine, is))
    ]

-- ---- ended

-- the next frame is refused so
pub ended-refused : {F : Type 0} (c : FrameCommand F) (f : ℕ) (fault : F) (before now : Option (List ℕ)) → Passed c f → Wrote c f before now → c.refusal f ≡ Some fault → Ended c f (Some fault) before now
ended-refused c f fault before now passed written why = record {
  outcome = record { before = passed; at = why; done = λ e. absurd (cc) };
  written = written;
}

-- the next frame is not there
pub ended-done : {F : Type 0} (c : FrameCommand F) (f : ℕ) (before now : Option (List ℕ)) → Passed c f → Wrote c f before now → c.refusal f ≡ None → c.is_there f ≡ false → Ended c f None before now
ended-done c f before now passed written fine gone = record {
  outcome = record { before = passed; at = fine; done = λ e. gone };
  written = written;
}

-- ---- answers by the kind of the fault

pub refused_answer : {F : Type 0} (kind : F → FaultKind) (c : LoneCommand F) (before after left : Option (List ℕ)) (fault : F) → kind fault ≡ frame_refused → Refused c.frames (TookAtMost c left) fault before after
    → LoneAnswer kind c before after left (Err fault)
refused_answer kind c before after left fault is refused = subst (FaultAnswer c.frames (lone_account c left) before after fault) (sym is) refused

pub refused_cause : {F : Type 0} (X : Type 0) (kind : F → FaultKind) (reads : Seat → Type 0) (shelf shelf' : Cause → ℕ) (sink sink' : ℕ) (fault : F) → kind fault ≡ frame_refused → shelf' ≡ shelf → sink' ≡ sink
    → AnswerCause {X = X} kind reads shelf shelf' sink sink' (Err fault)
refused_cause X kind reads shelf shelf' sink sink' fault is kept kept' = subst (FaultCause reads shelf shelf' sink sink') (sym is) (kept, kept')

pub refused_reading : {F : Type 0} (X : Type 0) (kind : F → FaultKind) (shelf shelf' : Cause → ℕ) (fault : F) → kind fault ≡ frame_refused → shelf' ≡ shelf → ReadingCause {X = X} kind shelf shelf' (Err fault)
refused_reading X kind shelf shelf' fault is kept = subst (ReadingFault shelf shelf') (sym is) kept

pub refused_room : {F : Type 0} (X : Type 0) (kind : F → FaultKind) (room : Option ℕ) (after : Option (List ℕ)) (fault : F) → kind fault ≡ frame_refused → AnswerRoom {X = X} kind room after (Err fault)
refused_room X kind room after fault is = subst (FaultRoom room after) (sym is) tt

-- ---- calls that only read

reading_fault : (kind : FaultKind) (shelf middle shelf' : Cause → ℕ) (sink sink' : ℕ) → middle ≡ shelf → sink' ≡ sink → ReadingFault middle shelf' kind → FaultCause (λ seat. seat ≡ seats.In) shelf shelf' sink sink' kind
reading_fault frame_refused shelf middle shelf' sink sink' kept kept' said = (said ∙ kept, kept')
reading_fault (read_failed seat) shelf middle shelf' sink sink' kept kept' said = (said.0, subst (λ (f : Cause → ℕ). Rose (f (Reading seat)) (shelf' (Reading seat))) kept said.1, kept')
reading_fault write_failed shelf middle shelf' sink sink' kept kept' said = absurd said
reading_fault no_memory shelf middle shelf' sink sink' kept kept' said = absurd said

pub reading_lone : {X F : Type 0} (kind : F → FaultKind) (shelf middle shelf' : Cause → ℕ) (sink sink' : ℕ) (result : Result X F) → middle ≡ shelf → sink' ≡ sink → ReadingCause kind middle shelf' result → LoneCause kind shelf shelf' sink sink' result
reading_lone kind shelf middle shelf' sink sink' (Ok x) kept kept' said = (said ∙ kept, kept')
reading_lone kind shelf middle shelf' sink sink' (Err fault) kept kept' said = reading_fault (kind fault) shelf middle shelf' sink sink' kept kept' said

reading_no_write : (kind : FaultKind) (shelf shelf' : Cause → ℕ) (room : Option ℕ) (after : Option (List ℕ)) → ReadingFault shelf shelf' kind → FaultRoom room after kind
reading_no_write frame_refused shelf shelf' room after said = tt
reading_no_write (read_failed seat) shelf shelf' room after said = tt
reading_no_write write_failed shelf shelf' room after said = absurd said
reading_no_write no_memory shelf shelf' room after said = tt

pub reading_room : {X F : Type 0} (kind : F → FaultKind) (shelf shelf' : Cause → ℕ) (room : Option ℕ) (after : Option (List ℕ)) (result : Result X F) → ReadingCause kind shelf shelf' result → AnswerRoom kind room after result
reading_room kind shelf shelf' room after (Ok x) said = tt
reading_room kind shelf shelf' room after (Err fault) said = reading_no_write (kind fault) shelf shelf' room after said
