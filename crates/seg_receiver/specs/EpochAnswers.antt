-- What the parts of the receiving say: a frame, an epoch, and the end at the limit of frames.
use Rattle.std.specs.Prelude.{◌≡◌, ℕ, suc, ◌+◌, ◌≤◌, ◌<◌, ◌⊎◌, Bool, List, length, take, drop, Some, None, Ok, Err}
use Rattle.std.specs.declared.option.Option.{Option}
use Rattle.std.specs.declared.result.Result.{Result}
use Rattle.isdbt_base.specs.declared.kinds.Mode.{Mode}
use Rattle.isdbt_base.specs.declared.kinds.Guard.{Guard}
use Rattle.edge_io.specs.declared.shelf.Seat.TheVariants as seats
use Rattle.edge_io.specs.FrameAnswers.{Passed, Wrote, Finished, LoneAnswer}
use Rattle.bts_info.specs.Fields.{Tag}
use Rattle.tmcc_word.specs.Fields.{TmccFields}
use Rattle.tmcc_word.specs.Reading.{read}
use Rattle.coder_core.specs.SentCells.{frame_size}
use Rattle.seg_receiver.specs.declared.aim.Aim.{Aim}
use Rattle.seg_receiver.specs.declared.fault.ReceiveFault.{ReceiveFault}
use Rattle.seg_receiver.specs.declared.fault.ReceiveFault.TheVariants.{Truncated}
use Rattle.seg_receiver.specs.declared.epochs.EpochEnd.{EpochEnd}
use Rattle.seg_receiver.specs.declared.epochs.EpochEnd.TheVariants.{Input, Next}
use Rattle.seg_receiver.specs.CellStream.{stream_word, word_by, View}
use Rattle.seg_receiver.specs.Epochs.{epoch_start, epoch_head}
use Rattle.seg_receiver.specs.ReceiveRefusals.{word_refusal, word_before}
use Rattle.seg_receiver.specs.ReceiveAnswers.{receive_kind, receive_command}

-- ---- frames

-- what the packets of a frame with this word bear
abbrev pub tag_of : TmccFields × Bool → Bool → Tag
tag_of word first = record { odd = word.1; first = first; start_up = word.0.start_up; countdown = word.0.countdown }

-- why a frame is refused of which a head of this size came, and so many bytes of its symbols: some and not all, or its word is refused, by whether words are corrected
abbrev pub FrameRefused : Bool → Mode → ℕ → Aim → ℕ → Option (TmccFields × Bool) → List ℕ → ℕ → ReceiveFault → Type 0
FrameRefused fix mode head aim f before frame count fault =
    ((0 < head + count) × (count < length frame) × (fault ≡ Truncated seats.In (head + count)))
    ⊎ ((length frame ≤ count) × (word_refusal f aim before (read (word_by fix (stream_word mode frame 0))) ≡ Some fault))

-- what the symbols of a frame say of which so many bytes came, behind a head of this size
abbrev pub FrameCheck : Bool → Mode → ℕ → Aim → ℕ → Option (TmccFields × Bool) → List ℕ → ℕ → Result (Option (TmccFields × Bool)) ReceiveFault → Type 0
FrameCheck fix mode head aim f before frame count (Ok None) = head + count ≡ 0
FrameCheck fix mode head aim f before frame count (Ok (Some word)) =
    (length frame ≤ count) × (read (word_by fix (stream_word mode frame 0)) ≡ Ok word) × (word_refusal f aim before (read (word_by fix (stream_word mode frame 0))) ≡ None)
FrameCheck fix mode head aim f before frame count (Err fault) = FrameRefused fix mode head aim f before frame count fault

-- ---- progress

-- the first f frames of a stream, of which this is the view, were taken, passed and written, and the last one's word says this
pub record Progress (v : View) (aim : Aim) (stream : List ℕ) (limit f : ℕ) (last : Option (TmccFields × Bool)) (left before now : Option (List ℕ)) : Type 0 where
  pub passed : Passed (receive_command v aim stream limit).frames f
  pub written : Wrote (receive_command v aim stream limit).frames f before now
  pub word : word_before v f ≡ last
  pub within : v.starts f ≤ length stream
  pub left_is : left ≡ Some (drop (v.starts f) stream)

-- the head of frame f was taken, where the frame has one, and says this mode and guard interval
pub record HeadTaken (v : View) (stream : List ℕ) (f : ℕ) (said : Mode × Guard) (left : Option (List ℕ)) : Type 0 where
  pub mode : v.mode f ≡ said.0
  pub guard : v.guard f ≡ said.1
  pub fine : v.bad_head f ≡ None
  pub end : v.starts (f + 1) ≡ v.starts f + v.head + frame_size said.0
  pub within : v.starts f + v.head ≤ length stream
  pub left_is : left ≡ Some (drop (v.starts f + v.head) stream)

-- what the head of frame f must repeat, by the frames before
abbrev pub DueIn : View → ℕ → Option (Mode × Guard) → Type 0
DueIn v f due = epoch_head v.word v.mode v.guard f ≡ due

-- what the head of the next frame of a stream says: there is no such frame, or the head was taken, or it ends all
abbrev pub HeadAnswer : View → Aim → List ℕ → ℕ → ℕ → Option (List ℕ) → Option (List ℕ) → Option (List ℕ) → Result (Option (Mode × Guard)) ReceiveFault → Type 0
HeadAnswer v aim stream limit f before now left (Ok None) = Finished (receive_command v aim stream limit) f before now left
HeadAnswer v aim stream limit f before now left (Ok (Some said)) = HeadTaken v stream f said left
HeadAnswer v aim stream limit f before now left (Err fault) = LoneAnswer receive_kind (receive_command v aim stream limit) before now left (Err fault)

-- frame f of this mode and guard interval was taken and is passed, its word says this, and these bytes begin with its symbols
pub record Taken (v : View) (aim : Aim) (stream : List ℕ) (limit f : ℕ) (said : Mode × Guard) (last : Option (TmccFields × Bool)) (word : TmccFields × Bool) (frame : List ℕ) (left : Option (List ℕ)) : Type 0 where
  pub passed : Passed (receive_command v aim stream limit).frames (f + 1)
  pub mode : v.mode f ≡ said.0
  pub guard : v.guard f ≡ said.1
  pub word_is : read (v.word f) ≡ Ok word
  pub fine : word_refusal f aim last (Ok word) ≡ None
  pub head_fine : v.bad_head f ≡ None
  pub frame_is : take (frame_size said.0) frame ≡ take (frame_size said.0) (drop (v.starts f + v.head) stream)
  pub within : v.starts (f + 1) ≤ length stream
  pub left_is : left ≡ Some (drop (v.starts (f + 1)) stream)

-- what the next frame of a stream says: there is none, or it was taken and is passed, or it ends all
abbrev pub TakeAnswer : View → Aim → List ℕ → ℕ → ℕ → Mode × Guard → Option (TmccFields × Bool) → List ℕ → Option (List ℕ) → Option (List ℕ) → Option (List ℕ) → Result (Option (TmccFields × Bool)) ReceiveFault → Type 0
TakeAnswer v aim stream limit f said last frame before now left (Ok None) = Finished (receive_command v aim stream limit) f before now left
TakeAnswer v aim stream limit f said last frame before now left (Ok (Some word)) = Taken v aim stream limit f said last word frame left
TakeAnswer v aim stream limit f said last frame before now left (Err fault) = LoneAnswer receive_kind (receive_command v aim stream limit) before now left (Err fault)

-- ---- epochs

-- the first f frames were written, and the next, where there is one below the limit, begins an epoch
pub record AtEpoch (v : View) (aim : Aim) (stream : List ℕ) (limit f : ℕ) (last : Option (TmccFields × Bool)) (left before now : Option (List ℕ)) : Type 0 where
  pub so_far : Progress v aim stream limit f last left before now
  pub begun : f < limit → epoch_start v.word f ≡ f

-- the first f frames were written, and the last is in the epoch that begins at a frame, of this mode and guard interval
pub record InEpoch (v : View) (aim : Aim) (stream : List ℕ) (limit start f : ℕ) (said : Mode × Guard) (word : TmccFields × Bool) (left before now : Option (List ℕ)) : Type 0 where
  pub so_far : Progress v aim stream limit f (Some word) left before now
  pub last : ℕ
  pub next : suc last ≡ f
  pub mode : v.mode last ≡ said.0
  pub guard : v.guard last ≡ said.1
  pub word_is : read (v.word last) ≡ Ok word
  pub begun : epoch_start v.word last ≡ start

-- what an epoch says: the stream ended in it, or it ended, or the limit was reached
abbrev pub EpochAnswer : View → Aim → List ℕ → ℕ → Option (List ℕ) → Option (List ℕ) → Option (List ℕ) → Result EpochEnd ReceiveFault → Type 0
EpochAnswer v aim stream limit before after left (Ok (Input m)) = Finished (receive_command v aim stream limit) m before after left
EpochAnswer v aim stream limit before after left (Ok (Next start)) = AtEpoch v aim stream limit start.frame start.before left before after
EpochAnswer v aim stream limit before after left (Err fault) = LoneAnswer receive_kind (receive_command v aim stream limit) before after left (Err fault)

-- an epoch that goes on behind a frame ends past it, at the limit at the latest
abbrev pub EndsPast : ℕ → ℕ → Result EpochEnd ReceiveFault → Type 0
EndsPast f limit (Ok (Next start)) = (f < start.frame) × (start.frame ≤ limit)
EndsPast f limit result = Unit {0}
