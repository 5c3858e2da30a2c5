-- The frames of null packets behind the data, and the end.
use Rattle.std.proofs.Common.{◌≡◌, ℕ, ◌+◌, ◌*◌, ◌<◌, ◌≤◌, false, List, [], length, take, Some, ap, sym, ◌∙◌, arith, inl, inr}
use Rattle.std.specs.declared.option.Option.{Option}
use Rattle.std.proofs.lemmas.List.{drop_all}
use Rattle.std.proofs.lemmas.Bool.{lt-ltb, le-ltb, cases_lt}
use Rattle.isdbt_base.specs.declared.kinds.Layer.{Layer}
use Rattle.isdbt_base.specs.Epochs.{last_start, last_sent}
use Rattle.isdbt_base.specs.Numbers.{greatest_delay}
use Rattle.isdbt_base.specs.Plans.{Schedule, IsPlan}
use Rattle.edge_io.specs.declared.shelf.Seat.{Seat}
use Rattle.edge_io.specs.Known.{append_known}
use Rattle.edge_io.specs.FrameAnswers.{Passed, Wrote, Refused, WriteFailed}
use Rattle.edge_io.proofs.FrameAnswers.{wrote-more, wrote_part, passed-more, ended-refused, ended-done}
use Rattle.remux_core.specs.declared.fault.RemuxFault.TheVariants.{TooLong}
use Rattle.remux_core.specs.Multiplex.{placed_before, frame_count, packet_count, written_frame}
use Rattle.remux_core.specs.Refusals.{is_there, seat_of}
use Rattle.remux_core.specs.Frames.{packets_of}
use Rattle.remux_core.specs.Parts.{IsGood}
use Rattle.remux_core.specs.Answers.{IsUsed, Took, TookAtMost, bytes_before, remux_command, HasPlace, Finished}
use Rattle.remux_core.specs.Epoch.{DataDone}
use Rattle.remux_core.proofs.Places.{placed_before-rise, frame_count-some, frame_count-none}
use Rattle.remux_core.proofs.Placing.{has_place}
use Rattle.remux_core.proofs.Refusing.{refusal-past, refusal-too_long, too_long-none, too_long-past}
use Rattle.remux_core.proofs.Progress.{took_frame}

-- an unused layer has no input
abbrev pub NoneUnused : Schedule → (Layer → List ℕ) → Type 0
NoneUnused p input = (x : Layer) → packets_of p.first x ≡ 0 → input x ≡ []

-- a frame is behind all packets
abbrev pub IsBehind : Schedule → (Layer → List ℕ) → ℕ → Type 0
IsBehind p input f = (x : Layer) → length (input x) ≤ 188 * placed_before p x f

-- and so are the frames behind it
later : (p : Schedule) (input : Layer → List ℕ) (f g : ℕ) → IsBehind p input f → f ≤ g → IsBehind p input g
later p input f g behind le x = (let a = behind x in let b = placed_before-rise p x f g le in omega (arith, a, b))

-- ---- the end

-- all frames are written
pub finished : (p : Schedule) (input : Layer → List ℕ) (limit m : ℕ) (before after : Option (List ℕ)) (left : Seat → Option (List ℕ)) → IsPlan p → NoneUnused p input →
    m ≡ frame_count p (packet_count input) → IsBehind p input m →
    Passed (remux_command p input limit) m × Wrote (remux_command p input limit) m before after → ((x : Layer) → IsGood (input x)) →
    ((x : Layer) → IsUsed p x → left (seat_of x) ≡ Some []) → Finished p input limit m before after left
finished p input limit m before after left plan none is behind so_far good left_is = record {
  ended = ended-done (remux_command p input limit) m before after so_far.0 so_far.1 (refusal-past p input limit m (too_long-past p input limit m gone) behind) gone;
  count = is;
  good = good;
  places = λ x i within. places x i within;
  left_is = left_is;
}
  where
    gone : is_there p input m ≡ false
    gone = le-ltb m (frame_count p (packet_count input)) (omega (arith, is))

    places : (x : Layer) (i : ℕ) → i < packet_count input x → HasPlace p x i m
    places x i within = elim (cases_lt 0 (packets_of p.first x)) [
      | inl some ↦ has_place p input x i m plan some is within
      | inr unused ↦ absurd (let empty = ap length (none x (omega (arith, unused))) in omega (arith, empty, within))
    ]

-- there was no data
pub no_data : (p : Schedule) (input : Layer → List ℕ) (limit frames : ℕ) (before after : Option (List ℕ)) (left : Seat → Option (List ℕ)) → IsPlan p → NoneUnused p input →
    frames ≡ last_start p → DataDone p input limit frames before after left → Finished p input limit frames before after left
no_data p input limit frames before after left plan none first d =
    let all = d.frames_is in
    let count = frame_count-none p (packet_count input) (omega (arith, all, first)) in
    finished p input limit frames before after left plan none (omega (arith, count, first)) d.behind (d.passed, d.written) d.good d.left_is

-- ---- the frames behind the data

-- there was data, and so many frames come in all
pub record Drain (p : Schedule) (input : Layer → List ℕ) (limit frames end : ℕ) (before old : Option (List ℕ)) (left : Seat → Option (List ℕ)) : Type 0 where
  pub plan : IsPlan p
  pub unused : NoneUnused p input
  pub some : last_start p < frames
  pub end_is : end ≡ frames + greatest_delay (last_sent p).mode (last_sent p).setting
  pub done : DataDone p input limit frames before old left

-- whatever the inputs, if their data frames were written: the frames up to frame f are
abbrev pub Drained : Schedule → ℕ → ℕ → ℕ → Option (List ℕ) → Option (List ℕ) → Type 0
Drained p limit frames f old now = (input : Layer → List ℕ) (before : Option (List ℕ)) (left : Seat → Option (List ℕ)) → NoneUnused p input → DataDone p input limit frames before old left →
    Passed (remux_command p input limit) f × Wrote (remux_command p input limit) f before now

all_frames : (p : Schedule) (input : Layer → List ℕ) (limit frames end : ℕ) (before old : Option (List ℕ)) (left : Seat → Option (List ℕ)) →
    Drain p input limit frames end before old left → end ≡ frame_count p (packet_count input)
all_frames p input limit frames end before old left d =
    let is = d.done.frames_is in
    let some = d.some in
    let all = d.end_is in
    let count = frame_count-some p (packet_count input) (omega (arith, is, some)) in
    omega (arith, is, all, count)

pub behind_data : (p : Schedule) (input : Layer → List ℕ) (limit frames f : ℕ) (before old : Option (List ℕ)) (left : Seat → Option (List ℕ)) →
    DataDone p input limit frames before old left → frames ≤ f → IsBehind p input f
behind_data p input limit frames f before old left d from = later p input frames f d.behind from

passed_past : (p : Schedule) (input : Layer → List ℕ) (limit frames end f : ℕ) (before old : Option (List ℕ)) (left : Seat → Option (List ℕ)) →
    Drain p input limit frames end before old left → frames ≤ f → f < end → f < limit → Passed (remux_command p input limit) f → Passed (remux_command p input limit) (f + 1)
passed_past p input limit frames end f before old left d from below less so_far =
    let all = all_frames p input limit frames end before old left d in
    passed-more (remux_command p input limit) f so_far
    (refusal-past p input limit f (too_long-none p input limit f less) (behind_data p input limit frames f before old left d.done from))
    (lt-ltb f (frame_count p (packet_count input)) (omega (arith, all, below)))

pub drained_more : (p : Schedule) (input : Layer → List ℕ) (limit frames end f : ℕ) (before old mid after : Option (List ℕ)) (left : Seat → Option (List ℕ)) →
    Drain p input limit frames end before old left → frames ≤ f → f < end → f < limit →
    Passed (remux_command p input limit) f × Wrote (remux_command p input limit) f before mid → after ≡ append_known mid (written_frame p input f) →
    Passed (remux_command p input limit) (f + 1) × Wrote (remux_command p input limit) (f + 1) before after
drained_more p input limit frames end f before old mid after left d from below less so_far wrote =
    (passed_past p input limit frames end f before old left d from below less so_far.0, wrote-more (remux_command p input limit) f before mid after so_far.1 wrote)

-- behind the data nothing more is taken
took_all : (p : Schedule) (input : Layer → List ℕ) (f : ℕ) (left : Seat → Option (List ℕ)) → IsBehind p input f → ((x : Layer) → IsUsed p x → left (seat_of x) ≡ Some []) →
    Took p left input (bytes_before p f)
took_all p input f left behind all x used = (let short = behind x in all x used ∙ ap Some (sym (drop_all (bytes_before p f x) (input x) short)))

pub drain_failed : (p : Schedule) (input : Layer → List ℕ) (limit frames end f n : ℕ) (before old mid after : Option (List ℕ)) (left : Seat → Option (List ℕ)) →
    Drain p input limit frames end before old left → frames ≤ f → f < end → f < limit →
    Passed (remux_command p input limit) f × Wrote (remux_command p input limit) f before mid → (n < length (written_frame p input f)) × (after ≡ append_known mid (take n (written_frame p input f))) →
    WriteFailed (remux_command p input limit) (λ g. Took p left input (bytes_before p g)) before after
drain_failed p input limit frames end f n before old mid after left d from below less so_far part = record {
  frame = f;
  sent = n;
  passed = passed_past p input limit frames end f before old left d from below less so_far.0;
  short = part.0;
  written = wrote_part (remux_command p input limit) f n before mid after so_far.1 part.1;
  account = took_all p input (f + 1) left (behind_data p input limit frames (f + 1) before old left d.done (omega (arith, from))) d.done.left_is;
}

pub drain_too_long : (p : Schedule) (input : Layer → List ℕ) (limit frames end : ℕ) (before old after : Option (List ℕ)) (left : Seat → Option (List ℕ)) →
    Drain p input limit frames end before old left → frames ≤ limit → limit < end →
    Passed (remux_command p input limit) limit × Wrote (remux_command p input limit) limit before after → Refused (remux_command p input limit) (TookAtMost p left input) TooLong before after
drain_too_long p input limit frames end before old after left d few below so_far =
    let all = all_frames p input limit frames end before old left d in
    record {
      frame = limit;
      ended = ended-refused (remux_command p input limit) limit TooLong before after so_far.0 so_far.1 (refusal-too_long p input limit (lt-ltb limit (frame_count p (packet_count input)) (omega (arith, all, below))));
      account = took_frame p input limit left (took_all p input (limit + 1) left (behind_data p input limit frames (limit + 1) before old left d.done (omega (arith, few))) d.done.left_is);
    }

pub drained_all : (p : Schedule) (input : Layer → List ℕ) (limit frames end : ℕ) (before old after : Option (List ℕ)) (left : Seat → Option (List ℕ)) → Drain p input limit frames end before old left →
    Passed (remux_command p input limit) end × Wrote (remux_command p input limit) end before after → Finished p input limit end before after left
drained_all p input limit frames end before old after left d so_far =
    let all = d.end_is in
    finished p input limit end before after left d.plan d.unused (all_frames p input limit frames end before old left d)
    (behind_data p input limit frames end before old left d.done (omega (arith, all))) so_far d.done.good d.done.left_is
