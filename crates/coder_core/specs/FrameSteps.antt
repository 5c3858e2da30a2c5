-- What the work on one frame after another says: how far the frames of a stream have come, and what the next one says.
use Rattle.std.specs.Prelude.{◌≡◌, ℕ, ◌+◌, ◌-◌, ◌≤◌, Bool, true, false, List, length, take, drop, Some, None, Ok, Err}
use Rattle.std.specs.declared.option.Option.{Option}
use Rattle.std.specs.declared.result.Result.{Result}
use Rattle.isdbt_base.specs.Plans.{Schedule, at_frame}
use Rattle.isdbt_base.specs.Epochs.{begins_later}
use Rattle.isdbt_base.specs.Frames.{FramePackets}
use Rattle.isdbt_base.specs.declared.stream.Writing.{Writing}
use Rattle.edge_io.specs.FrameAnswers.{Passed, Wrote, LoneCommand, Finished, LoneAnswer}
use Rattle.coder_core.specs.declared.fault.CodeFault.{CodeFault}
use Rattle.coder_core.specs.declared.coder.Coder.{Coder}
use Rattle.coder_core.specs.InputFrames.{first_head, packets_before, frame_start, frame_at, input_frames}
use Rattle.coder_core.specs.CodeRefusals.{search_refusal}
use Rattle.coder_core.specs.Coder.{mode_of, guard_of, setting_of, StandsFor}
use Rattle.coder_core.specs.Answers.{code_kind, PacketCommand, packet_command, coding, showing}

-- ---- progress

-- a command over an input, with a limit on frames, and the packet of the first head
pub record PacketRun : Type 0 where
  pub command : PacketCommand
  pub input : List ℕ
  pub limit : ℕ
  pub head : ℕ

abbrev pub slots_of : PacketRun → ℕ → ℕ
slots_of r = r.command.cut.slots

abbrev pub command_of : PacketRun → LoneCommand CodeFault
command_of r = packet_command r.command r.input r.limit

-- the byte of the input at which a frame begins
abbrev pub start_of : PacketRun → ℕ → ℕ
start_of r f = frame_start (slots_of r) r.head f

-- the first f frames were taken, passed and written, and the first bytes of the next stand in the buffer
pub record Progress (r : PacketRun) (f held : ℕ) (frame : List ℕ) (left before now : Option (List ℕ)) : Type 0 where
  pub found : first_head r.input ≡ Some r.head
  pub searched : search_refusal r.input ≡ None
  pub passed : Passed (command_of r).frames f
  pub written : Wrote (command_of r).frames f before now
  pub holds : take held frame ≡ take held (drop (start_of r f) r.input)
  pub within : start_of r f + held ≤ length r.input
  pub left_is : left ≡ Some (drop (start_of r f + held) r.input)

-- the first f frames were written, and frame f was taken: it is whole, stands below the limit, and is refused only for what its check finds
pub record Whole (r : PacketRun) (f : ℕ) (frame : List ℕ) (left before now : Option (List ℕ)) : Type 0 where
  pub found : first_head r.input ≡ Some r.head
  pub searched : search_refusal r.input ≡ None
  pub passed : Passed (command_of r).frames f
  pub written : Wrote (command_of r).frames f before now
  pub refusal_is : (command_of r).frames.refusal f ≡ r.command.cut.check f (r.head + packets_before (slots_of r) f) frame
  pub is_there : (command_of r).frames.is_there f ≡ true
  pub frame_is : frame ≡ frame_at (slots_of r) r.input r.head f
  pub within : start_of r (f + 1) ≤ length r.input
  pub left_is : left ≡ Some (drop (start_of r (f + 1)) r.input)

-- and it isn't refused
pub record Taken (r : PacketRun) (f : ℕ) (frame : List ℕ) (left before now : Option (List ℕ)) : Type 0 where
  pub whole : Whole r f frame left before now
  pub fine : r.command.cut.check f (r.head + packets_before (slots_of r) f) frame ≡ None

-- what a step of the work on frame f says: this where there is one, or there is none, or it ends all
abbrev pub StepAnswer : PacketRun → ℕ → Type 0 → Option (List ℕ) → Option (List ℕ) → Option (List ℕ) → Result Bool CodeFault → Type 0
StepAnswer r f there left before now (Ok true) = there
StepAnswer r f there left before now (Ok false) = Finished (command_of r) f before now left
StepAnswer r f there left before now (Err fault) = LoneAnswer code_kind (command_of r) before now left (Err fault)

-- ---- the coder

-- a coder has the mode, the guard interval and the setting of a frame
pub record IsOfFrame (c : Coder) (p : Schedule) (f : ℕ) : Type 0 where
  pub mode : mode_of c ≡ (at_frame p f).mode
  pub guard : guard_of c ≡ (at_frame p f).guard
  pub setting : setting_of c ≡ (at_frame p f).setting

-- it is as the frames that stand before a frame in the frame's epoch leave it
abbrev pub StandsAt : Coder → Schedule → FramePackets → ℕ → Type 0
StandsAt c p frames f = StandsFor c frames (at_frame p f).start (f - (at_frame p f).start)

-- the coding of an input with a plan, whose first head stands in a packet
abbrev pub coding_run : Writing → Schedule → List ℕ → ℕ → ℕ → PacketRun
coding_run how p input limit head = record { command = coding how p; input = input; limit = limit; head = head }

-- the first f frames were coded, and the coder is that of frame f unless another epoch begins with it
pub record AtFrame (how : Writing) (p : Schedule) (input : List ℕ) (limit head f held : ℕ) (c : Coder) (frame : List ℕ) (left before now : Option (List ℕ)) : Type 0 where
  pub so_far : Progress (coding_run how p input limit head) f held frame left before now
  pub stands : begins_later p f ≡ false → StandsAt c p (input_frames p input head) f

-- ---- the listing

-- the listing of an input, of frames of so many slots, whose first head stands in a packet
abbrev pub showing_run : ℕ → List ℕ → ℕ → ℕ → PacketRun
showing_run slots input limit head = record { command = showing slots; input = input; limit = limit; head = head }
