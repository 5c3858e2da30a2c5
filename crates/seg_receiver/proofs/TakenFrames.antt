-- What the check of a frame says of the stream.
use Rattle.std.proofs.Common.{◌≡◌, ℕ, ◌+◌, ◌≤◌, ◌<◌, Bool, List, [], ◌∷◌, length, take, drop, refl, subst, sym, inl, inr}
use Rattle.std.specs.Prelude.{Some, None, Ok, Err, IfOk, IfSome, if◌then◌else◌, ◌==◌}
use Rattle.std.specs.Int.{from_bool}
use Rattle.std.specs.declared.option.Option.{Option}
use Rattle.std.specs.declared.result.Result.{Result}
use Rattle.std.proofs.lemmas.Bool.{cond_both}
use Rattle.isdbt_base.specs.declared.kinds.Mode.{Mode}
use Rattle.isdbt_base.specs.declared.kinds.Guard.{Guard}
use Rattle.isdbt_base.specs.Outcome.{first_some}
use Rattle.isdbt_base.specs.Parameters.{Parameters}
use Rattle.edge_io.specs.Causes.{Cause}
use Rattle.edge_io.specs.FrameAnswers.{frame_refused, ReadingCause}
use Rattle.edge_io.proofs.FrameAnswers.{refused_answer, refused_reading}
use Rattle.tmcc_word.specs.declared.fault.TmccFault.{TmccFault}
use Rattle.tmcc_word.specs.declared.fault.TmccFault.TheVariants as words
use Rattle.tmcc_word.specs.Fields.{TmccFields}
use Rattle.tmcc_word.specs.Reading.{read}
use Rattle.coder_core.specs.SentCells.{frame_size}
use Rattle.seg_receiver.specs.declared.aim.Aim.{Aim}
use Rattle.seg_receiver.specs.declared.aim.Aim.TheVariants.{Full, Partial, Lines}
use Rattle.seg_receiver.specs.declared.fault.ReceiveFault.{ReceiveFault}
use Rattle.seg_receiver.specs.declared.fault.ReceiveFault.TheVariants.{BadTmcc, Unannounced, NotPartial}
use Rattle.seg_receiver.specs.CellStream.{stream_word, word_by, View}
use Rattle.seg_receiver.specs.ReceiveRefusals.{head_refusal, expected, is_expected, behind_refusal, part_refusal, reading_refusal, word_refusal}
use Rattle.seg_receiver.specs.ReceiveAnswers.{receive_kind, receive_command}
use Rattle.seg_receiver.specs.FrameReading.{Came}
use Rattle.seg_receiver.specs.EpochAnswers.{FrameRefused, FrameCheck, HeadTaken, Progress, TakeAnswer}
use Rattle.seg_receiver.proofs.ReceiveProgress.{nothing_came, frame-refused, taken_frame}
use Rattle.seg_receiver.proofs.ViewLaws.{IsLaid}

-- ---- the kinds of faults

-- a fault of a frame
abbrev pub OfFrame : ReceiveFault → Type 0
OfFrame fault = receive_kind fault ≡ frame_refused

either-kind : (a b : Option ReceiveFault) → IfSome a OfFrame → IfSome b OfFrame → IfSome (first_some (a ∷ b ∷ [])) OfFrame
either-kind (Some x) b ka kb = ka
either-kind None (Some x) ka kb = kb
either-kind None None ka kb = tt

behind-kind : (f : ℕ) (before : Option (TmccFields × Bool)) (word : TmccFields × Bool) → IfSome (behind_refusal f before word) OfFrame
behind-kind f None word = tt
behind-kind f (Some before) word =
    cond_both (from_bool before.1 == from_bool word.1) (Some (BadTmcc f words.Sync)) (if is_expected (expected before.0) word.0.now then None else Some (Unannounced f)) (λ o. IfSome o OfFrame)
    (λ e. refl) (λ e. cond_both (is_expected (expected before.0) word.0.now) None (Some (Unannounced f)) (λ o. IfSome o OfFrame) (λ e. tt) (λ e. refl))

part-kind : (f : ℕ) (s : Parameters) → IfSome (part_refusal f s) OfFrame
part-kind f s = cond_both (s.partial) None (Some (NotPartial f)) (λ o. IfSome o OfFrame) (λ e. tt) (λ e. refl)

reading-kind : (f : ℕ) (aim : Aim) (before : Option (TmccFields × Bool)) (word : TmccFields × Bool) → IfSome (reading_refusal f aim before word) OfFrame
reading-kind f Full before word = behind-kind f before word
reading-kind f Partial before word = either-kind (behind_refusal f before word) (part_refusal f word.0.now) (behind-kind f before word) (part-kind f word.0.now)
reading-kind f Lines before word = tt

word-kind : (f : ℕ) (aim : Aim) (before : Option (TmccFields × Bool)) (r : Result (TmccFields × Bool) TmccFault) → IfSome (word_refusal f aim before r) OfFrame
word-kind f aim before (Err reason) = refl
word-kind f aim before (Ok word) = reading-kind f aim before word

head-kind : (f : ℕ) (bad : Option ℕ) → IfSome (head_refusal f bad) OfFrame
head-kind f None = tt
head-kind f (Some byte) = refl

pub bad_head-kind : (f : ℕ) (bad : Option ℕ) (fault : ReceiveFault) → head_refusal f bad ≡ Some fault → OfFrame fault
bad_head-kind f bad fault is = subst (λ o. IfSome o OfFrame) is (head-kind f bad)

pub refused-kind : (fix : Bool) (mode : Mode) (head : ℕ) (aim : Aim) (f : ℕ) (before : Option (TmccFields × Bool)) (frame : List ℕ) (count : ℕ) (fault : ReceiveFault) → FrameRefused fix mode head aim f before frame count fault → OfFrame fault
refused-kind fix mode head aim f before frame count fault (inl cut) = subst OfFrame (sym cut.2) refl
refused-kind fix mode head aim f before frame count fault (inr bad) = subst (λ o. IfSome o OfFrame) bad.1 (word-kind f aim before (read (word_by fix (stream_word mode frame 0))))

-- ---- what a frame says

pub take_answer : (v : View) (stream : List ℕ) (laid : IsLaid v stream) (aim : Aim) (limit f : ℕ) (said : Mode × Guard) (last : Option (TmccFields × Bool)) (known left before now : Option (List ℕ)) → f < limit
    → Progress v aim stream limit f last known before now → HeadTaken v stream f said left
    → (n : ℕ) (frame part : List ℕ) (left' : Option (List ℕ)) (result : Result (Option (TmccFields × Bool)) ReceiveFault) → length part ≡ frame_size said.0 → take (frame_size said.0) frame ≡ part
    → Came part (drop (v.starts f + v.head) stream) left' n → FrameCheck v.fix said.0 v.head aim f last part n result → TakeAnswer v aim stream limit f said last frame before now left' result
take_answer v stream laid aim limit f said last known left before now less so_far head n frame part left' (Ok None) size front came check =
    nothing_came v stream laid aim limit f said last known left before now less so_far head n part left' size check came
take_answer v stream laid aim limit f said last known left before now less so_far head n frame part left' (Ok (Some word)) size front came check =
    taken_frame v stream laid aim limit f said last known left before now less so_far head n word frame part left' size front check.0 check.1 check.2 came
take_answer v stream laid aim limit f said last known left before now less so_far head n frame part left' (Err fault) size front came check =
    refused_answer receive_kind (receive_command v aim stream limit) before now left' fault (refused-kind v.fix said.0 v.head aim f last part n fault check)
    (frame-refused v stream laid aim limit f said last known left before now less so_far head n fault part left' size came check)

pub take_cause : (fix : Bool) (mode : Mode) (head : ℕ) (aim : Aim) (f n : ℕ) (last : Option (TmccFields × Bool)) (frame : List ℕ) (shelf shelf' : Cause → ℕ) (result : Result (Option (TmccFields × Bool)) ReceiveFault)
    → FrameCheck fix mode head aim f last frame n result → shelf' ≡ shelf → ReadingCause receive_kind shelf shelf' result
take_cause fix mode head aim f n last frame shelf shelf' (Ok o) check kept = kept
take_cause fix mode head aim f n last frame shelf shelf' (Err fault) check kept = refused_reading (Option (TmccFields × Bool)) receive_kind shelf shelf' fault (refused-kind fix mode head aim f last frame n fault check) kept

-- what follows where all of a frame came holds of a frame that is taken
pub if_taken : (fix : Bool) (mode : Mode) (head : ℕ) (aim : Aim) (f : ℕ) (before : Option (TmccFields × Bool)) (frame : List ℕ) (count : ℕ) (result : Result (Option (TmccFields × Bool)) ReceiveFault) (P : Type 0)
    → (length frame ≤ count → P) → FrameCheck fix mode head aim f before frame count result → IfOk result (λ o. IfSome o (λ word. P))
if_taken fix mode head aim f before frame count (Ok None) P follows check = tt
if_taken fix mode head aim f before frame count (Ok (Some word)) P follows check = follows check.0
if_taken fix mode head aim f before frame count (Err fault) P follows check = tt
