-- Which frames of a stream of cells a receiver refuses, and why.
use Rattle.std.specs.Prelude.{ℕ, zero, suc, ◌+◌, ◌-◌, Bool, false, ◌==◌, nat_lt, Option, Some, None, Result, Ok, Err, [], ◌∷◌, if◌then◌else◌}
use Rattle.std.specs.Int.{from_bool}
use Rattle.isdbt_base.specs.Bits.{bits_number}
use Rattle.isdbt_base.specs.Parameters.{Parameters}
use Rattle.isdbt_base.specs.Outcome.{first_some}
use Rattle.edge_io.specs.declared.shelf.Seat.TheVariants as seats
use Rattle.tmcc_word.specs.declared.fault.TmccFault.{TmccFault}
use Rattle.tmcc_word.specs.declared.fault.TmccFault.TheVariants as words
use Rattle.tmcc_word.specs.Fields.{TmccFields}
use Rattle.tmcc_word.specs.Words.{setting_field}
use Rattle.tmcc_word.specs.Reading.{read, ok_part}
use Rattle.seg_receiver.specs.declared.aim.Aim.{Aim}
use Rattle.seg_receiver.specs.declared.aim.Aim.TheVariants.{Full, Partial, Lines}
use Rattle.seg_receiver.specs.declared.fault.ReceiveFault.{ReceiveFault}
use Rattle.seg_receiver.specs.declared.fault.ReceiveFault.TheVariants.{Truncated, BadHead, BadTmcc, Unannounced, NotPartial, TooLong}
use Rattle.seg_receiver.specs.CellStream.{View}

-- whether frame f is there: where the stream has a byte of it
abbrev pub receive_is_there : View → ℕ → Bool
receive_is_there v f = nat_lt (v.starts f) v.size

-- two settings are the same where a word has the same bits for both
abbrev pub same_setting : Parameters → Parameters → Bool
same_setting s u = bits_number (setting_field s) == bits_number (setting_field u)

-- the setting that a word lets expect for the frame behind it: the next one where its countdown is 0, else the present one
abbrev pub expected : TmccFields → Option Parameters
expected info = if info.countdown == 0 then info.next else Some info.now

-- whether a setting is the expected one, if there is one
abbrev pub is_expected : Option Parameters → Parameters → Bool
is_expected None s = false
is_expected (Some u) s = same_setting u s

-- why a word that is read is refused behind the word of the frame before, if that is read too: both are odd or neither, or the setting isn't the expected one
abbrev pub behind_refusal : ℕ → Option (TmccFields × Bool) → TmccFields × Bool → Option ReceiveFault
behind_refusal f None word = None
behind_refusal f (Some before) word =
    if from_bool before.1 == from_bool word.1 then Some (BadTmcc f words.Sync)
    else if is_expected (expected before.0) word.0.now then None else Some (Unannounced f)

-- why a setting is refused with partial reception: its flag is clear
abbrev pub part_refusal : ℕ → Parameters → Option ReceiveFault
part_refusal f s = if s.partial then None else Some (NotPartial f)

-- why a word that is read is refused, by what is asked: in full behind the word before it, with partial reception also by its flag, and never for lines
abbrev pub reading_refusal : ℕ → Aim → Option (TmccFields × Bool) → TmccFields × Bool → Option ReceiveFault
reading_refusal f Full before word = behind_refusal f before word
reading_refusal f Partial before word = first_some (behind_refusal f before word ∷ part_refusal f word.0.now ∷ [])
reading_refusal f Lines before word = None

-- why the word of frame f is refused: it isn't read, or what it says is refused
abbrev pub word_refusal : ℕ → Aim → Option (TmccFields × Bool) → Result (TmccFields × Bool) TmccFault → Option ReceiveFault
word_refusal f aim before (Err reason) = Some (BadTmcc f reason)
word_refusal f aim before (Ok word) = reading_refusal f aim before word

-- what the word of the frame before frame f says, if there is such a frame and its word is read
abbrev pub word_before : View → ℕ → Option (TmccFields × Bool)
word_before v zero = None
word_before v (suc f) = ok_part (read (v.word f))

-- why frame f is refused where the stream ends before a byte: it is unfinished
abbrev pub cut_refusal : View → ℕ → ℕ → Option ReceiveFault
cut_refusal v f end = if nat_lt v.size end then Some (Truncated seats.In (v.size - v.starts f)) else None

-- why frame f is refused whose head is refused at a byte, if it is
abbrev pub head_refusal : ℕ → Option ℕ → Option ReceiveFault
head_refusal f None = None
head_refusal f (Some byte) = Some (BadHead f byte)

-- why frame f is refused, by what is asked, with a limit on frames: it stands at the limit, it ends in its head, its head is refused, it ends behind its head, or its word is refused
unfoldable pub receive_refusal : View → Aim → ℕ → ℕ → Option ReceiveFault
receive_refusal v aim limit f =
    if receive_is_there v f
    then first_some ((if f == limit then Some TooLong else None)
    ∷ cut_refusal v f (v.starts f + v.head)
    ∷ head_refusal f (v.bad_head f)
    ∷ cut_refusal v f (v.starts (f + 1))
    ∷ word_refusal f aim (word_before v f) (read (v.word f)) ∷ [])
    else None
