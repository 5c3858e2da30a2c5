-- Which frames of a stream of broadcast packets are refused, and why, and which the coder refuses.
use Rattle.std.specs.Prelude.{ℕ, ◌+◌, ◌-◌, ◌*◌, Bool, false, ◌==◌, ◌||◌, nat_lt, min, is_some, unwrap_or, find, Option, Some, None, List, [], ◌∷◌, map, length, slice_index, if◌then◌else◌}
use Rattle.std.specs.List.{range_with_len}
use Rattle.isdbt_base.specs.Plans.{Schedule, at_frame}
use Rattle.isdbt_base.specs.Frames.{FramePackets}
use Rattle.isdbt_base.specs.Outcome.{first_some}
use Rattle.isdbt_base.specs.declared.stream.Writing.{Writing}
use Rattle.ts_packet.specs.Packets.{piece, piece_count, sync_byte}
use Rattle.edge_io.specs.declared.shelf.Seat.TheVariants as seats
use Rattle.coder_core.specs.declared.fault.CodeFault.{CodeFault}
use Rattle.coder_core.specs.declared.fault.CodeFault.TheVariants.{BadSync, Truncated, NoHead, TooLong}
use Rattle.coder_core.specs.FrameChecks.{refusal}
use Rattle.coder_core.specs.InputFrames.{first_head, bears_head, slots_at, packets_before, frame_start, frame_at, input_frames}
use Rattle.coder_core.specs.SentCells.{sent_frame}

-- ---- the search for the first frame head

-- the packets in which the first head is looked for
abbrev pub search_limit : ℕ
search_limit = 65536

-- why packet i is refused in the search: too many stand before it, it is unfinished, or it doesn't begin with the sync byte
abbrev pub packet_refusal : List ℕ → ℕ → Option CodeFault
packet_refusal input i = first_some ((if i == search_limit then Some TooLong else None)
    ∷ (if nat_lt (length input) (204 * (i + 1)) then Some (Truncated seats.In (length input - 204 * i)) else None)
    ∷ (if slice_index (piece 204 input i) 0 == sync_byte then None else Some (BadSync seats.In i)) ∷ [])

-- how many packets are looked at: those up to the first head, and all where none bears it
abbrev pub looked_at : List ℕ → Option ℕ → ℕ
looked_at input None = piece_count 204 input
looked_at input (Some head) = head + 1

-- there are packets, and none of them bears the head
abbrev pub no_head : List ℕ → Option ℕ → Option CodeFault
no_head input None = if length input == 0 then None else Some NoHead
no_head input (Some head) = None

-- why the search is refused: for the first packet that is, or for no head
unfoldable pub search_refusal : List ℕ → Option CodeFault
search_refusal input = first_some (first_some (map (packet_refusal input) (range_with_len 0 (looked_at input (first_head input)))) ∷ no_head input (first_head input) ∷ [])

-- packet i ends the search: it is refused, or bears the head
abbrev pub ends_search : List ℕ → ℕ → Bool
ends_search input i = is_some (packet_refusal input i) || bears_head (piece 204 input i)

-- the packet at which the search ends: the first that ends it, or that behind the last
unfoldable pub search_stop : List ℕ → ℕ
search_stop input = unwrap_or (find (ends_search input) (range_with_len 0 (piece_count 204 input))) (piece_count 204 input)

-- the bytes up to the end of that packet; behind the packets in which the head is looked for one byte is asked for
abbrev pub search_end : List ℕ → ℕ
search_end input = min (204 * (search_stop input + 1)) (204 * search_limit + 1)

-- ---- the frames from the first head on

-- how a stream of broadcast packets is cut into frames: the slots of each, and why a whole one is refused, by its number, the packets before it and its bytes
pub record FrameCut : Type 0 where
  pub slots : ℕ → ℕ
  pub check : ℕ → ℕ → List ℕ → Option CodeFault

-- the stream has a byte of a frame
abbrev pub has_byte_of : (ℕ → ℕ) → List ℕ → ℕ → ℕ → Bool
has_byte_of slots input head f = nat_lt (frame_start slots head f) (length input)

-- the stream ends in a frame
abbrev pub truncated : (ℕ → ℕ) → List ℕ → ℕ → ℕ → Option CodeFault
truncated slots input head f =
    if nat_lt (length input) (frame_start slots head f + 204 * slots f) then Some (Truncated seats.In (length input - frame_start slots head f)) else None

-- why a frame that is there is refused: it stands at the limit of frames, it is unfinished, or it fails its check
abbrev pub frame_refusal : FrameCut → List ℕ → ℕ → ℕ → ℕ → Option CodeFault
frame_refusal c input limit head f =
    if has_byte_of c.slots input head f
    then first_some ((if f == limit then Some TooLong else None) ∷ truncated c.slots input head f
    ∷ c.check f (head + packets_before c.slots f) (frame_at c.slots input head f) ∷ [])
    else None

abbrev pub refusal_from : FrameCut → List ℕ → ℕ → ℕ → Option ℕ → Option CodeFault
refusal_from c input limit f None = None
refusal_from c input limit f (Some head) = frame_refusal c input limit head f

-- why frame f of a stream is refused, with a limit on frames; the search belongs to frame 0
unfoldable pub stream_refusal : FrameCut → List ℕ → ℕ → ℕ → Option CodeFault
stream_refusal c input limit f = first_some ((if f == 0 then search_refusal input else None) ∷ refusal_from c input limit f (first_head input) ∷ [])

abbrev pub there_from : (ℕ → ℕ) → List ℕ → ℕ → Option ℕ → Bool
there_from slots input f None = false
there_from slots input f (Some head) = has_byte_of slots input head f

-- whether frame f is there: where the stream has a byte of it
unfoldable pub has_frame : (ℕ → ℕ) → List ℕ → ℕ → Bool
has_frame slots input f = there_from slots input f (first_head input)

-- ---- what is taken

abbrev pub starts_from : (ℕ → ℕ) → List ℕ → ℕ → Option CodeFault → Option ℕ → ℕ
starts_from slots input f None (Some head) = frame_start slots head f
starts_from slots input f refusal head = search_end input

-- the bytes of the stream that are taken before a frame; the search belongs to frame 0, and where it finds no head all ends with it
unfoldable pub stream_starts : (ℕ → ℕ) → List ℕ → ℕ → ℕ
stream_starts slots input f = if f == 0 then 0 else starts_from slots input f (search_refusal input) (first_head input)

-- ---- the frames of a plan

-- they are refused where their packets can't be coded
abbrev pub plan_cut : Schedule → FrameCut
plan_cut p = record { slots = slots_at p; check = λ f first frame. refusal (at_frame p f).setting (at_frame p f).mode f first frame }

-- why frame f is refused
abbrev pub code_refusal : Schedule → List ℕ → ℕ → ℕ → Option CodeFault
code_refusal p input limit f = stream_refusal (plan_cut p) input limit f

-- whether it is there
abbrev pub is_there : Schedule → List ℕ → ℕ → Bool
is_there p input f = has_frame (slots_at p) input f

abbrev pub frames_from : Schedule → List ℕ → Option ℕ → FramePackets
frames_from p input None f x j = []
frames_from p input (Some head) f x j = input_frames p input head f x j

-- what is written of frame f of a stream
unfoldable pub coded_frame : Writing → Schedule → List ℕ → ℕ → List ℕ
coded_frame how p input f = sent_frame how p (frames_from p input (first_head input)) f
