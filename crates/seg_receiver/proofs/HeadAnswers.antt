-- What the bytes of a head say, in the second version of the stream.
use Rattle.std.proofs.Common.{◌≡◌, ℕ, ◌+◌, ◌≤◌, ◌<◌, Bool, List, Some, None, Ok, length, take, drop, ap, sym, ◌∙◌, arith, inl, inr, length-drop, drop-drop}
use Rattle.std.specs.declared.option.Option.{Option}
use Rattle.std.proofs.lemmas.List.{take_all, drop_all}
use Rattle.isdbt_base.specs.declared.kinds.Mode.{Mode}
use Rattle.isdbt_base.specs.declared.kinds.Guard.{Guard}
use Rattle.isdbt_base.specs.Heads.{head_read}
use Rattle.edge_io.specs.declared.shelf.Seat.TheVariants as seats
use Rattle.edge_io.specs.FrameAnswers.{Refused, Finished, ReadFailed, LoneCommand, TookAtMost, Stopped as StoppedIn}
use Rattle.tmcc_word.specs.Fields.{TmccFields}
use Rattle.coder_core.specs.SentCells.{frame_size}
use Rattle.seg_receiver.specs.declared.aim.Aim.{Aim}
use Rattle.seg_receiver.specs.declared.fault.ReceiveFault.{ReceiveFault}
use Rattle.seg_receiver.specs.declared.fault.ReceiveFault.TheVariants.{Truncated}
use Rattle.seg_receiver.specs.HeadChecks.{bad_byte}
use Rattle.seg_receiver.specs.CellStream.{head_said, bytes_said, second_start, bytes_from, mode_said, guard_said, second_due, second_version}
use Rattle.seg_receiver.specs.ReceiveRefusals.{head_refusal}
use Rattle.seg_receiver.specs.ReceiveAnswers.{receive_command}
use Rattle.seg_receiver.specs.FrameReading.{Came, Stopped}
use Rattle.seg_receiver.specs.EpochAnswers.{HeadTaken, Progress}
use Rattle.isdbt_base.specs.declared.stream.Form.TheVariants.{V2}
use Rattle.seg_receiver.proofs.ReceiveProgress.{no_frame, cut_head, bad_head, read-failed}
use Rattle.seg_receiver.proofs.ViewLaws.{laid, start-next}

module _ (fix : Bool) (aim : Aim) (stream : List ℕ) (limit f : ℕ) where
  abbrev receiving : LoneCommand ReceiveFault
  receiving = receive_command (second_version fix stream) aim stream limit

  -- no byte came
  pub no_head : (n : ℕ) (last : Option (TmccFields × Bool)) (left left' before now : Option (List ℕ)) (buffer : List ℕ) → Progress (second_version fix stream) aim stream limit f last left before now
      → length buffer ≡ 8 → n ≡ 0 → Came buffer (bytes_from stream f) left' n → Finished receiving f before now left'
  no_head n last left left' before now buffer so_far size none came =
      let counted = came.all in
      let rest = length-drop (second_start stream f) stream in
      let le : length stream ≤ second_start stream f = omega (arith, counted, rest, size, none) in
      no_frame (second_version fix stream) stream (laid fix V2 stream) aim limit f last left left' before now so_far le (came.left_is ∙ ap Some (drop_all n (bytes_from stream f) (omega (arith, rest, le))))

  -- some came, and not all
  pub head_cut : (n : ℕ) (last : Option (TmccFields × Bool)) (left left' before now : Option (List ℕ)) (buffer : List ℕ) → f < limit → Progress (second_version fix stream) aim stream limit f last left before now
      → length buffer ≡ 8 → (n ≡ 0 → ⊥) → n < 8 → Came buffer (bytes_from stream f) left' n → Refused receiving.frames (TookAtMost receiving left') (Truncated seats.In n) before now
  head_cut n last left left' before now buffer less so_far size some short came =
      let counted = came.all in
      let rest = length-drop (second_start stream f) stream in
      cut_head (second_version fix stream) stream (laid fix V2 stream) aim limit f n last left left' before now less (omega (arith, some)) short (omega (arith, counted, rest, size, short)) so_far came.left_is

  -- a read failed
  pub head_stopped : (last : Option (TmccFields × Bool)) (left left' before now : Option (List ℕ)) (buffer : List ℕ) → f < limit → Progress (second_version fix stream) aim stream limit f last left before now
      → length buffer ≡ 8 → Stopped buffer (bytes_from stream f) left' → ReadFailed receiving.frames (λ f seat. StoppedIn receiving left' f) seats.In before now
  head_stopped last left left' before now buffer less so_far size stop =
      let taken = stop.taken in
      let short = stop.below in
      let within = stop.within in
      let inside = so_far.within in
      let rest = length-drop (second_start stream f) stream in
      let below : second_start stream f + stop.taken < second_start stream (f + 1) = elim ((laid fix V2 stream).past f) [ inl fits ↦ omega (arith, fits, short, size) | inr past ↦ omega (arith, past, within, rest, inside) ] in
      read-failed (second_version fix stream) stream (laid fix V2 stream) aim limit f stop.taken seats.In last left left' before now less below so_far (stop.left_is ∙ ap Some (drop-drop stop.taken (second_start stream f) stream))

  -- all came
  whole-head : (n : ℕ) (left' : Option (List ℕ)) (buffer : List ℕ) → length buffer ≡ 8 → 8 ≤ n → Came buffer (bytes_from stream f) left' n → (n ≡ 8) × (buffer ≡ take 8 (bytes_from stream f)) × (second_start stream f + 8 ≤ length stream)
  whole-head n left' buffer size full came =
      let counted = came.all in
      let rest = length-drop (second_start stream f) stream in
      let all : n ≡ 8 = omega (arith, counted, size, full) in
      (all, sym (take_all n buffer (omega (arith, all, size))) ∙ came.front ∙ ap (λ m. take m (bytes_from stream f)) all, omega (arith, all, counted, rest))

  pub head_refused : (n : ℕ) (last : Option (TmccFields × Bool)) (left left' before now : Option (List ℕ)) (buffer : List ℕ) (due : Option (Mode × Guard)) (fault : ReceiveFault) → f < limit → Progress (second_version fix stream) aim stream limit f last left before now
      → length buffer ≡ 8 → 8 ≤ n → Came buffer (bytes_from stream f) left' n → second_due fix stream f ≡ due → head_refusal f (bad_byte due buffer) ≡ Some fault → Refused receiving.frames (TookAtMost receiving left') fault before now
  head_refused n last left left' before now buffer due fault less so_far size full came must is =
      let whole = whole-head n left' buffer size full came in
      bad_head (second_version fix stream) stream (laid fix V2 stream) aim limit f fault last left left' before now less (omega arith) whole.2
      (ap (λ o. head_refusal f (bad_byte o (take 8 (bytes_from stream f)))) must ∙ ap (λ xs. head_refusal f (bad_byte due xs)) (sym whole.1) ∙ is)
      so_far (came.left_is ∙ ap (λ m. Some (drop m (bytes_from stream f))) whole.0)

  pub head_taken : (n : ℕ) (last : Option (TmccFields × Bool)) (left left' before now : Option (List ℕ)) (buffer : List ℕ) (due : Option (Mode × Guard)) (said : Mode × Guard) → Progress (second_version fix stream) aim stream limit f last left before now
      → length buffer ≡ 8 → 8 ≤ n → Came buffer (bytes_from stream f) left' n → second_due fix stream f ≡ due → head_read buffer ≡ Ok said → bad_byte due buffer ≡ None → HeadTaken (second_version fix stream) stream f said left'
  head_taken n last left left' before now buffer due said so_far size full came must says fine =
      let whole = whole-head n left' buffer size full came in
      let is : head_said (bytes_from stream f) ≡ Ok said = ap head_read (sym whole.1) ∙ says in
      record {
        mode = ap mode_said is;
        guard = ap guard_said is;
        fine = ap (λ o. bad_byte o (take 8 (bytes_from stream f))) must ∙ ap (bad_byte due) (sym whole.1) ∙ fine;
        end = start-next stream f ∙ ap (λ r. second_start stream f + bytes_said (length (bytes_from stream f)) r) is ∙ (let e : second_start stream f + (8 + frame_size said.0) ≡ second_start stream f + 8 + frame_size said.0 = omega arith in e);
        within = whole.2;
        left_is = came.left_is ∙ ap Some (drop-drop n (second_start stream f) stream) ∙ ap (λ m. Some (drop (second_start stream f + m) stream)) whole.0;
      }
