-- What an answer says of the input, of what was written and of what was taken, of a coding and of a listing: each is a command over one input.
use Rattle.std.specs.Prelude.{◌≡◌, ℕ, ◌+◌, ◌*◌, ◌≤◌, ◌<◌, Bool, false, List, [], length, drop, Some, None, Ok, Err}
use Rattle.std.specs.declared.option.Option.{Option}
use Rattle.std.specs.declared.result.Result.{Result}
use Rattle.isdbt_base.specs.declared.kinds.Mode.{Mode}
use Rattle.isdbt_base.specs.declared.kinds.Guard.{Guard}
use Rattle.isdbt_base.specs.Numbers.{slots_per_frame}
use Rattle.isdbt_base.specs.Plans.{Schedule}
use Rattle.isdbt_base.specs.Epochs.{begins_later}
use Rattle.isdbt_base.specs.declared.stream.Writing.{Writing}
use Rattle.ts_packet.specs.Packets.{piece}
use Rattle.edge_io.specs.FrameAnswers.{FaultKind, frame_refused, read_failed, write_failed, no_memory, LoneCommand}
use Rattle.coder_core.specs.declared.fault.CodeFault.{CodeFault}
use Rattle.coder_core.specs.declared.fault.CodeFault.TheVariants.{ReadFault, WriteFault, NoMemory}
use Rattle.coder_core.specs.FrameChecks.{framing_refusal}
use Rattle.coder_core.specs.InputFrames.{first_head, bears_head}
use Rattle.coder_core.specs.CodeRefusals.{search_limit, packet_refusal, search_refusal, search_end, FrameCut, plan_cut, stream_refusal, has_frame, stream_starts, coded_frame}
use Rattle.coder_core.specs.ShownFrames.{shown_frame}

-- of what kind a fault is
abbrev pub code_kind : CodeFault → FaultKind
code_kind (ReadFault seat) = read_failed seat
code_kind WriteFault = write_failed
code_kind NoMemory = no_memory
code_kind fault = frame_refused

-- a command over the frames of broadcast packets: how they are cut, what is written of a frame of an input, and at which frames memory is asked for
pub record PacketCommand : Type 0 where
  pub cut : FrameCut
  pub frame : List ℕ → ℕ → List ℕ
  pub opens : ℕ → Bool

-- that command over an input, with a limit on frames
abbrev pub packet_command : PacketCommand → List ℕ → ℕ → LoneCommand CodeFault
packet_command c input limit = record {
  frames = record { refusal = stream_refusal c.cut input limit; is_there = has_frame c.cut.slots input; frame = c.frame input; opens = c.opens; ahead = 1 };
  input = input;
  limit = limit;
  starts = stream_starts c.cut.slots input;
}

-- the coding with a plan, in a version of the stream; memory is asked for where a later epoch opens
abbrev pub coding : Writing → Schedule → PacketCommand
coding how p = record { cut = plan_cut p; frame = coded_frame how p; opens = begins_later p }

-- the coding of an input; memory is asked for before the first read, too
abbrev pub code_command : Writing → Schedule → List ℕ → ℕ → LoneCommand CodeFault
code_command how p input limit = packet_command (coding how p) input limit

-- the listing of frames of so many slots: a whole frame is refused for a packet without the sync byte or a misplaced head flag, and no memory is asked for
abbrev pub showing : ℕ → PacketCommand
showing slots = record { cut = record { slots = λ f. slots; check = framing_refusal }; frame = shown_frame slots; opens = λ f. false }

-- the listing of the frames of an input, of a mode and a guard interval
abbrev pub show_command : Mode → Guard → List ℕ → ℕ → LoneCommand CodeFault
show_command mode guard input limit = packet_command (showing (slots_per_frame mode guard)) input limit

-- a read stopped in the search for the first head, in the packet behind so many that are good and don't bear it
pub record StoppedInSearch (input : List ℕ) (taken : ℕ) : Type 0 where
  pub packets : ℕ
  pub good : (k : ℕ) → k < packets → packet_refusal input k ≡ None
  pub no_head : (k : ℕ) → k < packets → bears_head (piece 204 input k) ≡ false
  pub from : 204 * packets ≤ taken
  pub below : taken < 204 * (packets + 1)
  pub most : taken ≤ 204 * search_limit

-- ---- the parts of the command

-- the first head was found: it was taken, and stands in the buffer
pub record Found (input : List ℕ) (head : ℕ) (packet : List ℕ) (left : Option (List ℕ)) : Type 0 where
  pub found : first_head input ≡ Some head
  pub searched : search_refusal input ≡ None
  pub whole : 204 * (head + 1) ≤ length input
  pub packet_is : packet ≡ piece 204 input head
  pub left_is : left ≡ Some (drop (204 * (head + 1)) input)

-- the search was refused, and nothing past the packet at which it ends was taken
pub record SearchRefused (input : List ℕ) (left : Option (List ℕ)) (fault : CodeFault) : Type 0 where
  pub refused : search_refusal input ≡ Some fault
  pub taken : ℕ
  pub left_is : left ≡ Some (drop taken input)
  pub most : taken ≤ search_end input

-- what a fault of each kind says in the search
abbrev pub SearchFault : List ℕ → Option (List ℕ) → CodeFault → FaultKind → Type 0
SearchFault input left fault frame_refused = SearchRefused input left fault
SearchFault input left fault (read_failed seat) = (taken : ℕ) × (left ≡ Some (drop taken input)) × StoppedInSearch input taken
SearchFault input left fault write_failed = ⊥
SearchFault input left fault no_memory = ⊥

-- what the search for the first head says; there is none of an empty input
abbrev pub SearchAnswer : List ℕ → List ℕ → Option (List ℕ) → Result (Option ℕ) CodeFault → Type 0
SearchAnswer input packet left (Ok (Some head)) = Found input head packet left
SearchAnswer input packet left (Ok None) = (input ≡ []) × (left ≡ Some [])
SearchAnswer input packet left (Err fault) = SearchFault input left fault (code_kind fault)
