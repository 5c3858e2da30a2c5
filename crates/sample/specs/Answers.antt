-- The text of a sample, and what an answer says: it is a command without input, whose text is written for its last frame.
use Rattle.std.specs.Prelude.{◌≡◌, ℕ, ◌==◌, nat_lt, false, Option, None, Ok, Err, List, [], if◌then◌else◌}
use Rattle.std.specs.declared.result.Result.{Result}
use Rattle.isdbt_base.specs.declared.kinds.Layer.TheVariants.{A, B}
use Rattle.edge_io.specs.declared.shelf.Seat.{Seat}
use Rattle.edge_io.specs.Causes.{Cause}
use Rattle.edge_io.specs.FrameAnswers.{FaultKind, write_failed, no_memory, FrameCommand, Ended, Account, FaultAnswer, AnswerCause}
use Rattle.sample.specs.declared.fault.SampleFault.{SampleFault}
use Rattle.sample.specs.declared.fault.SampleFault.TheVariants.{WriteFault, NoMemory}
use Rattle.sample.specs.SamplePlan.{sample_frames}
use Rattle.sample.specs.Lines.{tallies_text}
use Rattle.sample.specs.Tallies.{sample_tally}

-- the text of the sample with a number
unfoldable pub sample_text : ℕ → List ℕ
sample_text number = tallies_text (sample_tally number A) (sample_tally number B)

-- of what kind a fault is
abbrev pub sample_kind : SampleFault → FaultKind
sample_kind WriteFault = write_failed
sample_kind NoMemory = no_memory

-- no frame is refused, and the text is written for the last
abbrev pub sample_command : ℕ → FrameCommand SampleFault
sample_command number = record {
  refusal = λ f. None;
  is_there = λ f. nat_lt f sample_frames;
  frame = λ f. if f == 14 then sample_text number else [];
  opens = λ f. false;
  ahead = 0;
}

-- there is no input of which to say something
abbrev pub no_account : Account
no_account = record { took = λ f. Unit {0}; at_most = λ f. Unit {0}; untouched = Unit {0}; stopped = λ f seat. Unit {0} }

-- the command ended with all its frames, and the text was written
pub record Finished (number m : ℕ) (before after : Option (List ℕ)) : Type 0 where
  pub ended : Ended (sample_command number) m None before after
  pub count : m ≡ sample_frames

-- what each answer says
abbrev pub SampleAnswer : ℕ → Option (List ℕ) → Option (List ℕ) → Result ℕ SampleFault → Type 0
SampleAnswer number before after (Ok m) = Finished number m before after
SampleAnswer number before after (Err fault) = FaultAnswer (sample_command number) no_account before after fault (sample_kind fault)

-- when each answer may come: no seat is read, so that the counts of no shelf change
abbrev pub SampleCause : (Cause → ℕ) → ℕ → ℕ → Result ℕ SampleFault → Type 0
SampleCause shelf sink sink' result = AnswerCause sample_kind (λ (seat : Seat). ⊥) shelf shelf sink sink' result
