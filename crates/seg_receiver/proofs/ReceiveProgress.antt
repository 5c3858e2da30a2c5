-- How far the frames of a stream of cells have come.
use Rattle.std.proofs.Common.{◌≡◌, ℕ, suc, ◌+◌, ◌-◌, ◌*◌, ◌≤◌, ◌<◌, Bool, true, false, List, [], ◌∷◌, length, take, drop, refl, ap, sym, ◌∙◌, arith, inl, inr, length-drop, drop-drop}
use Rattle.std.specs.Prelude.{Some, None, Ok, ◌==◌, if◌then◌else◌}
use Rattle.std.specs.declared.option.Option.{Option}
use Rattle.std.proofs.lemmas.Bool.{ne_eqb, eq-eqb, lt-ltb, le-ltb}
use Rattle.std.proofs.lemmas.List.{drop_all, take_all}
use Rattle.isdbt_base.specs.declared.kinds.Mode.{Mode}
use Rattle.isdbt_base.specs.declared.kinds.Guard.{Guard}
use Rattle.isdbt_base.specs.Outcome.{first_some}
use Rattle.edge_io.specs.declared.shelf.Seat.TheVariants as seats
use Rattle.edge_io.specs.declared.shelf.Seat.{Seat}
use Rattle.edge_io.specs.Known.{append_known}
use Rattle.edge_io.specs.FrameAnswers.{Refused, Finished, ReadFailed, WriteFailed, LoneCommand, Took, TookAtMost, Stopped as StoppedIn}
use Rattle.edge_io.proofs.FrameAnswers.{wrote-none, wrote-more, wrote_part, passed-none, passed-more, ended-refused, ended-done}
use Rattle.tmcc_word.specs.Fields.{TmccFields}
use Rattle.tmcc_word.specs.Reading.{read, ok_part}
use Rattle.coder_core.specs.SentCells.{frame_size}
use Rattle.seg_receiver.specs.declared.aim.Aim.{Aim}
use Rattle.seg_receiver.specs.declared.fault.ReceiveFault.{ReceiveFault}
use Rattle.seg_receiver.specs.declared.fault.ReceiveFault.TheVariants.{Truncated, TooLong}
use Rattle.seg_receiver.specs.CellStream.{stream_word, word_by, View}
use Rattle.seg_receiver.specs.ReceiveRefusals.{receive_is_there, cut_refusal, head_refusal, word_refusal, word_before, receive_refusal}
use Rattle.seg_receiver.specs.ReceiveAnswers.{given_frame, receive_command}
use Rattle.seg_receiver.specs.FrameReading.{Came, Stopped}
use Rattle.seg_receiver.specs.EpochAnswers.{FrameRefused, HeadTaken, Progress, Taken}
use Rattle.seg_receiver.proofs.SymbolPlaces.{word-frame}
use Rattle.seg_receiver.proofs.ViewLaws.{IsLaid, came-part, starts-le}

first_some-one : (x : Option ReceiveFault) → first_some (x ∷ []) ≡ x
first_some-one None = refl
first_some-one (Some y) = refl

-- of five causes the first that is there
fifth : (a b c d e : Option ReceiveFault) → a ≡ None → b ≡ None → c ≡ None → d ≡ None → first_some (a ∷ b ∷ c ∷ d ∷ e ∷ []) ≡ e
fifth a b c d e na nb nc nd = rw (na, nb, nc, nd) (first_some-one e)

fourth : (a b c d e : Option ReceiveFault) (x : ReceiveFault) → a ≡ None → b ≡ None → c ≡ None → d ≡ Some x → first_some (a ∷ b ∷ c ∷ d ∷ e ∷ []) ≡ Some x
fourth a b c d e x na nb nc is = rw (na, nb, nc, is) refl

third : (a b c d e : Option ReceiveFault) (x : ReceiveFault) → a ≡ None → b ≡ None → c ≡ Some x → first_some (a ∷ b ∷ c ∷ d ∷ e ∷ []) ≡ Some x
third a b c d e x na nb is = rw (na, nb, is) refl

second : (a b c d e : Option ReceiveFault) (x : ReceiveFault) → a ≡ None → b ≡ Some x → first_some (a ∷ b ∷ c ∷ d ∷ e ∷ []) ≡ Some x
second a b c d e x na is = rw (na, is) refl

first-of : (a b c d e : Option ReceiveFault) (x : ReceiveFault) → a ≡ Some x → first_some (a ∷ b ∷ c ∷ d ∷ e ∷ []) ≡ Some x
first-of a b c d e x is = rw is refl

-- where none of several causes is there, the third isn't
no-third : (a b : Option ReceiveFault) (f : ℕ) (bad : Option ℕ) (rest : List (Option ReceiveFault)) → first_some (a ∷ b ∷ head_refusal f bad ∷ rest) ≡ None → bad ≡ None
no-third a b f None rest none = refl
no-third (Some x) b f (Some byte) rest none = absurd (cc)
no-third None (Some x) f (Some byte) rest none = absurd (cc)
no-third None None f (Some byte) rest none = absurd (cc)

not_at_limit : (f limit : ℕ) → f < limit → (if f == limit then Some TooLong else None) ≡ None
not_at_limit f limit less = rw (ne_eqb f limit (λ e. omega (arith, e, less))) refl

at_limit : (limit : ℕ) → (if limit == limit then Some TooLong else None) ≡ Some TooLong
at_limit limit = rw (eq-eqb limit limit refl) refl

-- ---- any view

module _ (v : View) (aim : Aim) (stream : List ℕ) (limit : ℕ) where
  -- the receiving, frame by frame
  abbrev command : LoneCommand ReceiveFault
  command = receive_command v aim stream limit

  there : (f : ℕ) → v.starts f < v.size → receive_is_there v f ≡ true
  there f less = lt-ltb (v.starts f) v.size less

  not_there : (f : ℕ) → v.size ≤ v.starts f → receive_is_there v f ≡ false
  not_there f le = le-ltb (v.starts f) v.size le

  refusal-none : (f : ℕ) → receive_is_there v f ≡ false → receive_refusal v aim limit f ≡ None
  unfolding receive_refusal
  refusal-none f none = rw none refl

  refusal-parts : (f : ℕ) → receive_is_there v f ≡ true → receive_refusal v aim limit f ≡
      first_some ((if f == limit then Some TooLong else None) ∷ cut_refusal v f (v.starts f + v.head) ∷ head_refusal f (v.bad_head f) ∷ cut_refusal v f (v.starts (f + 1)) ∷ word_refusal f aim (word_before v f) (read (v.word f)) ∷ [])
  unfolding receive_refusal
  refusal-parts f is = rw is refl

  -- of a frame that is there and isn't refused no head is refused
  pub head-passed : (f : ℕ) → receive_is_there v f ≡ true → receive_refusal v aim limit f ≡ None → v.bad_head f ≡ None
  head-passed f is fine = no-third (if f == limit then Some TooLong else None) (cut_refusal v f (v.starts f + v.head)) f (v.bad_head f) (cut_refusal v f (v.starts (f + 1)) ∷ word_refusal f aim (word_before v f) (read (v.word f)) ∷ []) (sym (refusal-parts f is) ∙ fine)

  cut-short : (f n end : ℕ) → v.size < end → v.size - v.starts f ≡ n → cut_refusal v f end ≡ Some (Truncated seats.In n)
  cut-short f n end short over = rw (lt-ltb v.size end short) (ap (λ n. Some (Truncated seats.In n)) over)

  uncut : (f end : ℕ) → end ≤ v.size → cut_refusal v f end ≡ None
  uncut f end whole = rw (le-ltb v.size end whole) refl

  -- why a frame is refused that ends in its head, below the limit
  refusal-in_head : (f n : ℕ) → f < limit → v.starts f < v.size → v.size < v.starts f + v.head → v.size - v.starts f ≡ n → receive_refusal v aim limit f ≡ Some (Truncated seats.In n)
  refusal-in_head f n less some short over =
      refusal-parts f (there f some) ∙ second _ _ _ _ _ (Truncated seats.In n) (not_at_limit f limit less) (cut-short f n (v.starts f + v.head) short over)

  -- whose head is refused
  refusal-head : (f : ℕ) (fault : ReceiveFault) → f < limit → v.starts f < v.size → v.starts f + v.head ≤ v.size → head_refusal f (v.bad_head f) ≡ Some fault → receive_refusal v aim limit f ≡ Some fault
  refusal-head f fault less some whole is =
      refusal-parts f (there f some) ∙ third _ _ _ _ _ fault (not_at_limit f limit less) (uncut f (v.starts f + v.head) whole) is

  -- that ends behind its head
  refusal-short : (f n : ℕ) → f < limit → v.starts f < v.size → v.starts f + v.head ≤ v.size → v.bad_head f ≡ None → v.size < v.starts (f + 1) → v.size - v.starts f ≡ n → receive_refusal v aim limit f ≡ Some (Truncated seats.In n)
  refusal-short f n less some whole fine short over =
      refusal-parts f (there f some)
      ∙ fourth _ _ _ _ _ (Truncated seats.In n) (not_at_limit f limit less) (uncut f (v.starts f + v.head) whole) (ap (head_refusal f) fine) (cut-short f n (v.starts (f + 1)) short over)

  -- that is there in full
  refusal-whole : (f : ℕ) (last : Option (TmccFields × Bool)) → f < limit → v.starts f < v.size → v.starts f + v.head ≤ v.size → v.bad_head f ≡ None → v.starts (f + 1) ≤ v.size → word_before v f ≡ last
      → receive_refusal v aim limit f ≡ word_refusal f aim last (read (v.word f))
  refusal-whole f last less some headed fine whole word =
      refusal-parts f (there f some)
      ∙ fifth _ _ _ _ _ (not_at_limit f limit less) (uncut f (v.starts f + v.head) headed) (ap (head_refusal f) fine) (uncut f (v.starts (f + 1)) whole)
      ∙ ap (λ o. word_refusal f aim o (read (v.word f))) word

  -- why a frame that is there at the limit is refused
  refusal-limit : v.starts limit < v.size → receive_refusal v aim limit limit ≡ Some TooLong
  refusal-limit some = refusal-parts limit (there limit some) ∙ first-of _ _ _ _ _ TooLong (at_limit limit)

  -- the stream ends
  pub finished : (f : ℕ) (last : Option (TmccFields × Bool)) (left left' before now : Option (List ℕ)) → Progress v aim stream limit f last left before now → v.size ≤ v.starts f → left' ≡ Some [] → Finished command f before now left'
  finished f last left left' before now so_far le none =
      let gone = not_there f le in
      record { ended = ended-done command.frames f before now so_far.passed so_far.written (refusal-none f gone) gone; left_is = none }

  -- a frame is refused
  pub refused : (f n : ℕ) (fault : ReceiveFault) (last : Option (TmccFields × Bool)) (left left' before now : Option (List ℕ)) → Progress v aim stream limit f last left before now → receive_refusal v aim limit f ≡ Some fault
      → v.starts f + n ≤ v.starts (f + 1) → left' ≡ Some (drop n (drop (v.starts f) stream)) → Refused command.frames (TookAtMost command left') fault before now
  refused f n fault last left left' before now so_far why most rest = record {
    frame = f;
    ended = ended-refused command.frames f fault before now so_far.passed so_far.written why;
    account = record { taken = v.starts f + n; left_is = rest ∙ ap Some (drop-drop n (v.starts f) stream); most = most };
  }

  -- a frame is passed
  word-next : (f : ℕ) (word : TmccFields × Bool) → read (v.word f) ≡ Ok word → word_before v (f + 1) ≡ Some word
  word-next f word is = ap (word_before v) (let e : f + 1 ≡ suc f = omega arith in e) ∙ ap ok_part is

  pub next : (f : ℕ) (said : Mode × Guard) (last : Option (TmccFields × Bool)) (word : TmccFields × Bool) (frame : List ℕ) (known left before mid after : Option (List ℕ)) → Progress v aim stream limit f last known before mid → Taken v aim stream limit f said last word frame left
      → after ≡ append_known mid (given_frame v aim f) → Progress v aim stream limit (f + 1) (Some word) left before after
  next f said last word frame known left before mid after so_far taken wrote = record {
    passed = taken.passed;
    written = wrote-more command.frames f before mid after so_far.written wrote;
    word = word-next f word taken.word_is;
    within = taken.within;
    left_is = taken.left_is;
  }

  pub write-failed : (f n : ℕ) (said : Mode × Guard) (last : Option (TmccFields × Bool)) (word : TmccFields × Bool) (frame : List ℕ) (known left before mid after : Option (List ℕ)) → Progress v aim stream limit f last known before mid → Taken v aim stream limit f said last word frame left
      → n < length (given_frame v aim f) → after ≡ append_known mid (take n (given_frame v aim f)) → WriteFailed command.frames (Took command left) before after
  write-failed f n said last word frame known left before mid after so_far taken short wrote = record {
    frame = f;
    sent = n;
    passed = taken.passed;
    short = short;
    written = wrote_part command.frames f n before mid after so_far.written wrote;
    account = taken.left_is;
  }

-- ---- a stream whose frames lie one behind the other

module _ (v : View) (stream : List ℕ) (laid : IsLaid v stream) (aim : Aim) (limit : ℕ) where
  abbrev receiving : LoneCommand ReceiveFault
  receiving = receive_command v aim stream limit

  -- ---- before the first frame

  pub begin : (left before : Option (List ℕ)) → left ≡ Some stream → Progress v aim stream limit 0 None left before before
  begin left before told =
      let first = laid.first in
      record {
        passed = passed-none receiving.frames;
        written = wrote-none receiving.frames before;
        word = refl;
        within = omega (arith, first);
        left_is = told ∙ ap (λ n. Some (drop n stream)) (sym first);
      }

  -- ---- heads

  -- nothing is left of the stream
  pub no_frame : (f : ℕ) (last : Option (TmccFields × Bool)) (left left' before now : Option (List ℕ)) → Progress v aim stream limit f last left before now → length stream ≤ v.starts f → left' ≡ Some [] → Finished receiving f before now left'
  no_frame f last left left' before now so_far le none =
      let size = laid.size in
      finished v aim stream limit f last left left' before now so_far (omega (arith, size, le)) none

  -- the stream ends in a head
  pub cut_head : (f n : ℕ) (last : Option (TmccFields × Bool)) (left left' before now : Option (List ℕ)) → f < limit → 0 < n → n < v.head → length stream - v.starts f ≡ n
      → Progress v aim stream limit f last left before now → left' ≡ Some (drop n (drop (v.starts f) stream)) → Refused receiving.frames (TookAtMost receiving left') (Truncated seats.In n) before now
  cut_head f n last left left' before now less some short over so_far rest =
      let size = laid.size in
      let within = so_far.within in
      let over' : v.size - v.starts f ≡ n = ap (λ m. m - v.starts f) size ∙ over in
      let most : v.starts f + n ≤ v.starts (f + 1) = elim (laid.past f) [ inl fits ↦ omega (arith, fits, short) | inr past ↦ omega (arith, past, over, within, some) ] in
      refused v aim stream limit f n (Truncated seats.In n) last left left' before now so_far
      (refusal-in_head v aim stream limit f n less (omega (arith, size, over, some)) (omega (arith, size, over, short)) over') most rest

  -- a head is refused
  pub bad_head : (f : ℕ) (fault : ReceiveFault) (last : Option (TmccFields × Bool)) (left left' before now : Option (List ℕ)) → f < limit → 0 < v.head → v.starts f + v.head ≤ length stream → head_refusal f (v.bad_head f) ≡ Some fault
      → Progress v aim stream limit f last left before now → left' ≡ Some (drop v.head (drop (v.starts f) stream)) → Refused receiving.frames (TookAtMost receiving left') fault before now
  bad_head f fault last left left' before now less some whole is so_far rest =
      let size = laid.size in
      let most : v.starts f + v.head ≤ v.starts (f + 1) = elim (laid.past f) [ inl fits ↦ fits | inr past ↦ omega (arith, past, whole) ] in
      refused v aim stream limit f v.head fault last left left' before now so_far
      (refusal-head v aim stream limit f fault less (omega (arith, size, whole, some)) (omega (arith, size, whole)) is) most rest

  -- ---- a read failed

  pub read-failed : (f n : ℕ) (seat : Seat) (last : Option (TmccFields × Bool)) (left left' before now : Option (List ℕ)) → f < limit → v.starts f + n < v.starts (f + 1)
      → Progress v aim stream limit f last left before now → left' ≡ Some (drop (v.starts f + n) stream) → ReadFailed receiving.frames (λ f seat. StoppedIn receiving left' f) seat before now
  read-failed f n seat last left left' before now less below so_far stop =
      let end = starts-le v stream (f + 1) limit laid (omega (arith, less)) in
      record {
        frame = f;
        passed = so_far.passed;
        written = so_far.written;
        account = record {
          taken = v.starts f + n;
          left_is = stop;
          from = omega arith;
          below = below;
          most = omega (arith, below, end);
        };
      }

  -- ---- the symbols behind a head

  module _ (f : ℕ) (said : Mode × Guard) (last : Option (TmccFields × Bool)) (known left before now : Option (List ℕ)) (less : f < limit) (so_far : Progress v aim stream limit f last known before now) (head : HeadTaken v stream f said left) where
    abbrev rest : List ℕ
    rest = drop (v.starts f + v.head) stream

    pub nothing_came : (n : ℕ) (part : List ℕ) (left' : Option (List ℕ)) → length part ≡ frame_size said.0 → v.head + n ≡ 0 → Came part rest left' n → Finished receiving f before now left'
    nothing_came n part left' size none came =
        let left_over = length-drop (v.starts f + v.head) stream in
        let counted = came.all in
        let some : 0 < frame_size said.0 = omega arith in
        let le : length stream ≤ v.starts f = omega (arith, counted, left_over, none, size, some) in
        no_frame f last known left' before now so_far le (came.left_is ∙ ap Some (drop_all n rest (omega (arith, left_over, le))))

    -- the symbols of a buffer that is full
    whole-part : (n : ℕ) (part : List ℕ) (left' : Option (List ℕ)) → length part ≡ frame_size said.0 → length part ≤ n → Came part rest left' n → part ≡ take (frame_size said.0) rest
    whole-part n part left' size full came =
        let counted = came.all in
        let all : n ≡ frame_size said.0 = omega (arith, counted, size, full) in
        sym (take_all n part full) ∙ came.front ∙ ap (λ m. take m rest) all

    whole-there : (n : ℕ) (part : List ℕ) (left' : Option (List ℕ)) → length part ≡ frame_size said.0 → length part ≤ n → Came part rest left' n → v.starts (f + 1) ≤ length stream
    whole-there n part left' size full came =
        let left_over = length-drop (v.starts f + v.head) stream in
        let counted = came.all in
        let end = head.end in
        let within = head.within in
        omega (arith, counted, left_over, size, full, end, within)

    -- its word is that of the frame
    word-part : (part : List ℕ) → part ≡ take (frame_size said.0) rest → word_by v.fix (stream_word said.0 part 0) ≡ v.word f
    word-part part is = ap (word_by v.fix) (came-part v stream f said.0 part laid head.mode is) ∙ laid.words f

    refusal-of_whole : v.starts (f + 1) ≤ length stream → receive_refusal v aim limit f ≡ word_refusal f aim last (read (v.word f))
    refusal-of_whole whole =
        let size = laid.size in
        let rises = laid.rises f in
        let within = head.within in
        refusal-whole v aim stream limit f last less (omega (arith, size, rises, whole)) (omega (arith, size, within)) head.fine (omega (arith, size, whole)) so_far.word

    pub frame-refused : (n : ℕ) (fault : ReceiveFault) (part : List ℕ) (left' : Option (List ℕ)) → length part ≡ frame_size said.0 → Came part rest left' n → FrameRefused v.fix said.0 v.head aim f last part n fault
        → Refused receiving.frames (TookAtMost receiving left') fault before now
    frame-refused n fault part left' size came (inl cut_off) =
        let left_over = length-drop (v.starts f + v.head) stream in
        let counted = came.all in
        let some = cut_off.0 in
        let short = cut_off.1 in
        let within = head.within in
        let end = head.end in
        let all = laid.size in
        let over : v.size - v.starts f ≡ v.head + n = omega (arith, counted, left_over, size, short, within, all) in
        refused v aim stream limit f (v.head + n) fault last known left' before now so_far
        (refusal-short v aim stream limit f (v.head + n) less (omega (arith, over, some)) (omega (arith, within, all)) head.fine (omega (arith, over, short, size, end, within, all)) over ∙ ap Some (sym cut_off.2))
        (omega (arith, short, size, end)) (came.left_is ∙ ap Some (drop-drop n (v.starts f + v.head) stream ∙ ap (λ m. drop m stream) (let e : v.starts f + v.head + n ≡ v.starts f + (v.head + n) = omega arith in e) ∙ sym (drop-drop (v.head + n) (v.starts f) stream)))
    frame-refused n fault part left' size came (inr bad) =
        let counted = came.all in
        let full = bad.0 in
        let whole = whole-there n part left' size full came in
        let is = whole-part n part left' size full came in
        let end = head.end in
        refused v aim stream limit f (v.head + n) fault last known left' before now so_far
        (refusal-of_whole whole ∙ ap (λ w. word_refusal f aim last (read w)) (sym (word-part part is)) ∙ bad.1)
        (omega (arith, counted, size, end)) (came.left_is ∙ ap Some (drop-drop n (v.starts f + v.head) stream ∙ ap (λ m. drop m stream) (let e : v.starts f + v.head + n ≡ v.starts f + (v.head + n) = omega arith in e) ∙ sym (drop-drop (v.head + n) (v.starts f) stream)))

    pub taken_frame : (n : ℕ) (word : TmccFields × Bool) (frame part : List ℕ) (left' : Option (List ℕ)) → length part ≡ frame_size said.0 → take (frame_size said.0) frame ≡ part → length part ≤ n
        → read (word_by v.fix (stream_word said.0 part 0)) ≡ Ok word → word_refusal f aim last (read (word_by v.fix (stream_word said.0 part 0))) ≡ None → Came part rest left' n → Taken v aim stream limit f said last word frame left'
    taken_frame n word frame part left' size front full says fine came =
        let whole = whole-there n part left' size full came in
        let is = whole-part n part left' size full came in
        let counted = came.all in
        let left_over = length-drop (v.starts f + v.head) stream in
        let bits = word-part part is in
        let at = head.end in
        let within = head.within in
        let all = laid.size in
        let rises = laid.rises f in
        let end : v.starts f + v.head + n ≡ v.starts (f + 1) = omega (arith, counted, left_over, size, full, at, within) in
        record {
          passed = passed-more receiving.frames f so_far.passed
              (refusal-of_whole whole ∙ ap (λ w. word_refusal f aim last (read w)) (sym bits) ∙ fine)
              (there v aim stream limit f (omega (arith, whole, all, rises)));
          mode = head.mode;
          guard = head.guard;
          word_is = ap read (sym bits) ∙ says;
          fine = ap (word_refusal f aim last) (sym says) ∙ fine;
          head_fine = head.fine;
          frame_is = front ∙ is;
          within = whole;
          left_is = came.left_is ∙ ap Some (drop-drop n (v.starts f + v.head) stream) ∙ ap (λ m. Some (drop m stream)) end;
        }

    pub stopped-behind : (seat : Seat) (part : List ℕ) (left' : Option (List ℕ)) → length part ≡ frame_size said.0 → Stopped part rest left' → ReadFailed receiving.frames (λ f seat. StoppedIn receiving left' f) seat before now
    stopped-behind seat part left' size stop =
        let below = stop.below in
        let end = head.end in
        read-failed f (v.head + stop.taken) seat last known left' before now less (omega (arith, below, size, end)) so_far
        (stop.left_is ∙ ap Some (drop-drop stop.taken (v.starts f + v.head) stream) ∙ ap (λ m. Some (drop m stream)) (let e : v.starts f + v.head + stop.taken ≡ v.starts f + (v.head + stop.taken) = omega arith in e))

  -- ---- the limit of frames

  pub ended_at_limit : (last : Option (TmccFields × Bool)) (left left' before now : Option (List ℕ)) → Progress v aim stream limit limit last left before now
      → drop (v.starts limit) stream ≡ [] → left' ≡ Some [] → Finished receiving limit before now left'
  ended_at_limit last left left' before now so_far empty gone =
      let rest = length-drop (v.starts limit) stream in
      let none : length (drop (v.starts limit) stream) ≡ 0 = ap length empty in
      no_frame limit last left left' before now so_far (omega (arith, rest, none)) gone

  pub too_long : (last : Option (TmccFields × Bool)) (left left' before now : Option (List ℕ)) → Progress v aim stream limit limit last left before now
      → 0 < length (drop (v.starts limit) stream) → left' ≡ Some (drop 1 (drop (v.starts limit) stream)) → Refused receiving.frames (TookAtMost receiving left') TooLong before now
  too_long last left left' before now so_far more one =
      let rest = length-drop (v.starts limit) stream in
      let size = laid.size in
      let rises = laid.rises limit in
      refused v aim stream limit limit 1 TooLong last left left' before now so_far (refusal-limit v aim stream limit (omega (arith, rest, more, size))) (omega (arith, rises)) one

  pub stopped_at_limit : (seat : Seat) (last : Option (TmccFields × Bool)) (left left' before now : Option (List ℕ)) → Progress v aim stream limit limit last left before now
      → left' ≡ Some (drop (v.starts limit) stream) → ReadFailed receiving.frames (λ f seat. StoppedIn receiving left' f) seat before now
  stopped_at_limit seat last left left' before now so_far same = record {
    frame = limit;
    passed = so_far.passed;
    written = so_far.written;
    account = record {
      taken = v.starts limit;
      left_is = same;
      from = omega arith;
      below = laid.rises limit;
      most = omega arith;
    };
  }
