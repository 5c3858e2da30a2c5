-- How far the frames of a plan have come, and what its parts answer.
use Rattle.std.specs.Prelude.{◌≡◌, ℕ, ◌+◌, ◌*◌, ◌<◌, ◌≤◌, true, List, [], length, Some, Ok, Err}
use Rattle.std.specs.declared.option.Option.{Option}
use Rattle.std.specs.declared.result.Result.{Result}
use Rattle.isdbt_base.specs.declared.kinds.Layer.{Layer}
use Rattle.isdbt_base.specs.Plans.{Schedule}
use Rattle.isdbt_base.specs.Epochs.{last_start}
use Rattle.edge_io.specs.declared.shelf.Seat.{Seat}
use Rattle.edge_io.specs.FrameAnswers.{Passed, Wrote}
use Rattle.remux_core.specs.declared.fault.RemuxFault.{RemuxFault}
use Rattle.remux_core.specs.declared.inputs.Inputs.{Inputs}
use Rattle.remux_core.specs.Multiplex.{placed_before, packet_count, data_frames}
use Rattle.remux_core.specs.Refusals.{seat_of}
use Rattle.remux_core.specs.Parts.{HasSync, IsWhole, IsGood}
use Rattle.remux_core.specs.Answers.{IsUsed, remux_command, RemuxAnswer}
use Rattle.remux_core.specs.Reading.{input_of, IsReady}

-- so many frames were read, found good and written
pub record Progress (p : Schedule) (input : Layer → List ℕ) (limit f : ℕ) (i : Inputs) (left : Seat → Option (List ℕ)) (before after : Option (List ℕ)) : Type 0 where
  pub ready : IsReady p input f i left
  pub sync : (x : Layer) (k : ℕ) → k < placed_before p x f → 188 * k < length (input x) → HasSync (input x) k
  pub whole : (x : Layer) → (input_of i x).ended ≡ true → IsWhole (input x)
  pub passed : Passed (remux_command p input limit) f
  pub written : Wrote (remux_command p input limit) f before after

-- what the frames up to frame f of the epochs before the last say
abbrev pub EpochAnswer : Schedule → (Layer → List ℕ) → ℕ → ℕ → Inputs → (Seat → Option (List ℕ)) → Option (List ℕ) → Option (List ℕ) → Result (Unit {0}) RemuxFault → Type 0
EpochAnswer p input limit f i left before after (Ok u) = Progress p input limit f i left before after
EpochAnswer p input limit f i left before after (Err fault) = RemuxAnswer p input limit before after left (Err fault)

-- what all epochs before the last say, which end at the answer
abbrev pub EpochsAnswer : Schedule → (Layer → List ℕ) → ℕ → Inputs → (Seat → Option (List ℕ)) → Option (List ℕ) → Option (List ℕ) → Result ℕ RemuxFault → Type 0
EpochsAnswer p input limit i left before after (Ok start) = Progress p input limit start i left before after
EpochsAnswer p input limit i left before after (Err fault) = RemuxAnswer p input limit before after left (Err fault)

-- all frames with input packets were written, and nothing of the inputs is left
pub record DataDone (p : Schedule) (input : Layer → List ℕ) (limit frames : ℕ) (before after : Option (List ℕ)) (left : Seat → Option (List ℕ)) : Type 0 where
  pub good : (x : Layer) → IsGood (input x)
  pub frames_is : frames ≡ last_start p + data_frames p (packet_count input)
  pub behind : (x : Layer) → length (input x) ≤ 188 * placed_before p x frames
  pub passed : Passed (remux_command p input limit) frames
  pub written : Wrote (remux_command p input limit) frames before after
  pub left_is : (x : Layer) → IsUsed p x → left (seat_of x) ≡ Some []

-- what the frames of the last epoch with input packets say
abbrev pub DataAnswer : Schedule → (Layer → List ℕ) → ℕ → Option (List ℕ) → Option (List ℕ) → (Seat → Option (List ℕ)) → Result ℕ RemuxFault → Type 0
DataAnswer p input limit before after left (Ok frames) = DataDone p input limit frames before after left
DataAnswer p input limit before after left (Err fault) = RemuxAnswer p input limit before after left (Err fault)
