-- How far the frames of a stream have come.
use Rattle.std.proofs.Common.{◌≡◌, ℕ, ◌+◌, ◌-◌, ◌*◌, ◌≤◌, ◌<◌, min, true, false, List, [], ◌∷◌, ◌++◌, length, take, drop, refl, ap, sym, ◌∙◌, subst, arith, drop-drop, length-drop}
use Rattle.std.specs.Prelude.{Some, None, ◌==◌, if◌then◌else◌}
use Rattle.std.specs.declared.option.Option.{Option}
use Rattle.std.proofs.Math.Seq.{take-add}
use Rattle.std.proofs.lemmas.Bool.{ne_eqb, eq-eqb, lt-ltb, le-ltb}
use Rattle.std.proofs.lemmas.List.{drop_all, take_all, take-take}
use Rattle.isdbt_base.specs.Outcome.{first_some}
use Rattle.edge_io.specs.declared.shelf.Seat.TheVariants as seats
use Rattle.edge_io.specs.Known.{append_known}
use Rattle.edge_io.specs.FrameAnswers.{Passed, Wrote, Refused, WriteFailed, ReadFailed, WantsMemory, TookAtMost, Took, Stopped, Finished}
use Rattle.edge_io.proofs.FrameAnswers.{wrote-none, wrote-more, wrote_part, passed-none, passed-more, ended-refused, ended-done}
use Rattle.coder_core.specs.declared.fault.CodeFault.{CodeFault}
use Rattle.coder_core.specs.declared.fault.CodeFault.TheVariants.{Truncated, TooLong}
use Rattle.coder_core.specs.InputFrames.{first_head, packets_before, frame_at}
use Rattle.coder_core.specs.CodeRefusals.{search_refusal, has_byte_of, truncated, frame_refusal}
use Rattle.edge_io.specs.Reading.{FilledTo, StoppedBelow}
use Rattle.coder_core.specs.Answers.{Found}
use Rattle.coder_core.specs.FrameSteps.{PacketRun, slots_of, command_of, start_of, Progress, Whole, Taken}
use Rattle.coder_core.proofs.FrameStarts.{start-zero, start-more, start-later}
use Rattle.coder_core.proofs.FoundHead.{first_some-one, refusal-found, there-found}
use Rattle.coder_core.proofs.CodeStarts.{starts-found, starts-within, starts-next}

-- each frame has slots
abbrev pub HaveSlots : PacketRun → Type 0
HaveSlots r = (f : ℕ) → 0 < slots_of r f

-- so many frames were passed and written, and so many bytes of the next frame came
pub record Turn (r : PacketRun) (f count : ℕ) (frame : List ℕ) (left before now : Option (List ℕ)) : Type 0 where
  pub found : first_head r.input ≡ Some r.head
  pub searched : search_refusal r.input ≡ None
  pub passed : Passed (command_of r).frames f
  pub written : Wrote (command_of r).frames f before now
  pub count_is : count ≡ min (204 * slots_of r f) (length r.input - start_of r f)
  pub reached : start_of r f ≤ length r.input
  pub front : take count frame ≡ take count (drop (start_of r f) r.input)
  pub left_is : left ≡ Some (drop (start_of r f + count) r.input)

-- before the first frame, with the head's packet
pub begin : (r : PacketRun) (frame : List ℕ) (left before : Option (List ℕ)) → Found r.input r.head (take 204 frame) left → Progress r 0 204 frame left before before
begin r frame left before f =
    let start = start-zero (slots_of r) r.head in
    let past : start_of r 0 + 204 ≡ 204 * (r.head + 1) = omega (arith, start) in
    record {
      found = f.found;
      searched = f.searched;
      passed = passed-none (command_of r).frames;
      written = wrote-none (command_of r).frames before;
      holds = f.packet_is ∙ ap (λ n. take 204 (drop n r.input)) (sym start);
      within = (let whole = f.whole in omega (arith, past, whole));
      left_is = f.left_is ∙ ap (λ n. Some (drop n r.input)) (sym past);
    }

-- the bytes that are held stand in the front of the buffer
pub held-front : (r : PacketRun) (f held size : ℕ) (buffer : List ℕ) (left before now : Option (List ℕ)) → held ≤ size → Progress r f held buffer left before now → Progress r f held (take size buffer) left before now
held-front r f held size buffer left before now fits so_far = record {
  found = so_far.found;
  searched = so_far.searched;
  passed = so_far.passed;
  written = so_far.written;
  holds = take-take held size buffer fits ∙ so_far.holds;
  within = so_far.within;
  left_is = so_far.left_is;
}

-- ---- a frame more

pub turn : (r : PacketRun) (f held n : ℕ) (old new : List ℕ) (left left' before now : Option (List ℕ)) → length new ≡ 204 * slots_of r f → held ≤ length new
    → Progress r f held old left before now → FilledTo held old new (drop (start_of r f + held) r.input) left' n → Turn r f n new left' before now
turn r f held n old new left left' before now size fits so_far filled =
    let s = start_of r f in
    let input = r.input in
    let rest = length-drop (s + held) input in
    let within : s + held ≤ length input = so_far.within in
    let counted = filled.count in
    let whole : held + (n - held) ≡ n = omega (arith, counted) in
    record {
      found = so_far.found;
      searched = so_far.searched;
      passed = so_far.passed;
      written = so_far.written;
      count_is = omega (arith, counted, rest, size, within, fits);
      reached = omega (arith, within);
      front = filled.front ∙ ap (λ xs. xs ++ take (n - held) (drop (s + held) input)) so_far.holds
          ∙ ap (λ xs. take held (drop s input) ++ take (n - held) xs) (sym (drop-drop held s input))
          ∙ sym (take-add held (n - held) (drop s input)) ∙ ap (λ m. take m (drop s input)) whole;
      left_is = filled.left_is ∙ ap Some (drop-drop (n - held) (s + held) input) ∙ ap (λ m. Some (drop m input)) (let e : s + held + (n - held) ≡ s + n = omega (arith, whole) in e);
    }

-- a byte of the frame is there, or none
there : (r : PacketRun) (f : ℕ) → start_of r f < length r.input → has_byte_of (slots_of r) r.input r.head f ≡ true
there r f less = lt-ltb (start_of r f) (length r.input) less

not_there : (r : PacketRun) (f : ℕ) → length r.input ≤ start_of r f → has_byte_of (slots_of r) r.input r.head f ≡ false
not_there r f le = le-ltb (start_of r f) (length r.input) le

refusal-none : (r : PacketRun) (f : ℕ) → has_byte_of (slots_of r) r.input r.head f ≡ false → frame_refusal r.command.cut r.input r.limit r.head f ≡ None
refusal-none r f none = rw none refl

-- the input ends at a frame
finished : (r : PacketRun) (f : ℕ) (left before now : Option (List ℕ)) → first_head r.input ≡ Some r.head → search_refusal r.input ≡ None → Passed (command_of r).frames f → Wrote (command_of r).frames f before now
    → length r.input ≤ start_of r f → left ≡ Some [] → Finished (command_of r) f before now left
finished r f left before now found searched passed written le none =
    let gone = not_there r f le in
    record {
      ended = ended-done (command_of r).frames f before now passed written (refusal-found r.command.cut r.input r.limit r.head f found searched ∙ refusal-none r f gone) (there-found (slots_of r) r.input r.head f found ∙ gone);
      left_is = none;
    }

pub nothing_came : (r : PacketRun) (f count : ℕ) (frame : List ℕ) (left before now : Option (List ℕ)) → HaveSlots r → count ≡ 0 → Turn r f count frame left before now → Finished (command_of r) f before now left
nothing_came r f count frame left before now have none t =
    let counted = t.count_is in
    let some = have f in
    let le : length r.input ≤ start_of r f = omega (arith, counted, none, some) in
    finished r f left before now t.found t.searched t.passed t.written le (t.left_is ∙ ap Some (drop_all (start_of r f + count) r.input (omega (arith, le, none))))

-- frame f is refused so, and so many bytes were taken
refused : (r : PacketRun) (f taken : ℕ) (fault : CodeFault) (left before now : Option (List ℕ)) → first_head r.input ≡ Some r.head → search_refusal r.input ≡ None → Passed (command_of r).frames f → Wrote (command_of r).frames f before now
    → frame_refusal r.command.cut r.input r.limit r.head f ≡ Some fault → left ≡ Some (drop taken r.input) → taken ≤ start_of r (f + 1) → Refused (command_of r).frames (TookAtMost (command_of r) left) fault before now
refused r f taken fault left before now found searched passed written why left_is most = record {
  frame = f;
  ended = ended-refused (command_of r).frames f fault before now passed written (refusal-found r.command.cut r.input r.limit r.head f found searched ∙ why);
  account = record { taken = taken; left_is = left_is; most = (let e = starts-next (slots_of r) r.input r.head f found searched in omega (arith, e, most)) };
}

-- the parts of a refusal, where a byte of the frame is there
refusal-parts : (r : PacketRun) (f : ℕ) → has_byte_of (slots_of r) r.input r.head f ≡ true → frame_refusal r.command.cut r.input r.limit r.head f ≡
    first_some ((if f == r.limit then Some TooLong else None) ∷ truncated (slots_of r) r.input r.head f ∷ r.command.cut.check f (r.head + packets_before (slots_of r) f) (frame_at (slots_of r) r.input r.head f) ∷ [])
refusal-parts r f is = rw is refl

third : (a b c : Option CodeFault) → a ≡ None → b ≡ None → first_some (a ∷ b ∷ c ∷ []) ≡ c
third a b c none none' = rw (none, none') (first_some-one c)

second : (a b c : Option CodeFault) (x : CodeFault) → a ≡ None → b ≡ Some x → first_some (a ∷ b ∷ c ∷ []) ≡ Some x
second a b c x none is = rw (none, is) refl

not_at_limit : (f limit : ℕ) → f < limit → (if f == limit then Some TooLong else None) ≡ None
not_at_limit f limit less = rw (ne_eqb f limit (λ e. omega (arith, e, less))) refl

pub cut_off : (r : PacketRun) (f count : ℕ) (frame : List ℕ) (left before now : Option (List ℕ)) → f < r.limit → 0 < count → count < 204 * slots_of r f → Turn r f count frame left before now
    → Refused (command_of r).frames (TookAtMost (command_of r) left) (Truncated seats.In count) before now
cut_off r f count frame left before now less some short t =
    let counted = t.count_is in
    let over : length r.input - start_of r f ≡ count = omega (arith, counted, short) in
    let cut : truncated (slots_of r) r.input r.head f ≡ Some (Truncated seats.In count) = rw (lt-ltb (length r.input) (start_of r f + 204 * slots_of r f) (omega (arith, over, short))) (ap (λ n. Some (Truncated seats.In n)) over) in
    let more = start-more (slots_of r) r.head f in
    refused r f (start_of r f + count) (Truncated seats.In count) left before now t.found t.searched t.passed t.written
    (refusal-parts r f (there r f (omega (arith, over, some))) ∙ second _ _ _ _ (not_at_limit f r.limit less) cut)
    t.left_is (omega (arith, more, short))

-- ---- the frame is whole

-- the buffer is the frame
whole_frame : (r : PacketRun) (f count : ℕ) (frame : List ℕ) (left before now : Option (List ℕ)) → length frame ≡ 204 * slots_of r f → length frame ≤ count → Turn r f count frame left before now
    → frame ≡ frame_at (slots_of r) r.input r.head f
whole_frame r f count frame left before now size full t =
    let counted = t.count_is in
    let all : count ≡ 204 * slots_of r f = omega (arith, counted, size, full) in
    sym (take_all count frame full) ∙ t.front ∙ ap (λ n. take n (drop (start_of r f) r.input)) all

pub whole : (r : PacketRun) (f count : ℕ) (frame : List ℕ) (left before now : Option (List ℕ)) → HaveSlots r → f < r.limit → length frame ≡ 204 * slots_of r f → length frame ≤ count → Turn r f count frame left before now
    → Whole r f frame left before now
whole r f count frame left before now have less size full t =
    let counted = t.count_is in
    let some = have f in
    let reached = t.reached in
    let more = start-more (slots_of r) r.head f in
    let is = whole_frame r f count frame left before now size full t in
    let all : start_of r f + count ≡ start_of r (f + 1) = omega (arith, counted, more, size, full) in
    let uncut : truncated (slots_of r) r.input r.head f ≡ None = rw (le-ltb (length r.input) (start_of r f + 204 * slots_of r f) (omega (arith, counted, size, full, reached))) refl in
    let byte = there r f (omega (arith, counted, size, full, some)) in
    record {
      found = t.found;
      searched = t.searched;
      passed = t.passed;
      written = t.written;
      refusal_is = refusal-found r.command.cut r.input r.limit r.head f t.found t.searched ∙ refusal-parts r f byte ∙ third _ _ _ (not_at_limit f r.limit less) uncut
          ∙ ap (λ xs. r.command.cut.check f (r.head + packets_before (slots_of r) f) xs) (sym is);
      is_there = there-found (slots_of r) r.input r.head f t.found ∙ byte;
      frame_is = is;
      within = omega (arith, all, counted, size, full, reached);
      left_is = t.left_is ∙ ap (λ n. Some (drop n r.input)) all;
    }

-- a whole frame that its check refuses
pub frame_refused : (r : PacketRun) (f first : ℕ) (fault : CodeFault) (frame : List ℕ) (left before now : Option (List ℕ)) → first ≡ r.head + packets_before (slots_of r) f → Whole r f frame left before now
    → r.command.cut.check f first frame ≡ Some fault → Refused (command_of r).frames (TookAtMost (command_of r) left) fault before now
frame_refused r f first fault frame left before now place w why = record {
  frame = f;
  ended = ended-refused (command_of r).frames f fault before now w.passed w.written (w.refusal_is ∙ ap (λ n. r.command.cut.check f n frame) (sym place) ∙ why);
  account = record { taken = start_of r (f + 1); left_is = w.left_is; most = (let e = starts-next (slots_of r) r.input r.head f w.found w.searched in omega (arith, e)) };
}

-- one that it does not refuse is passed
pub taken : (r : PacketRun) (f first : ℕ) (frame : List ℕ) (left before now : Option (List ℕ)) → first ≡ r.head + packets_before (slots_of r) f → Whole r f frame left before now → r.command.cut.check f first frame ≡ None
    → Taken r f frame left before now
taken r f first frame left before now place w fine = record { whole = w; fine = ap (λ n. r.command.cut.check f n frame) (sym place) ∙ fine }

-- ---- behind a frame that was taken

passed : (r : PacketRun) (f : ℕ) (frame : List ℕ) (left before now : Option (List ℕ)) → Taken r f frame left before now → Passed (command_of r).frames (f + 1)
passed r f frame left before now t = passed-more (command_of r).frames f t.whole.passed (t.whole.refusal_is ∙ t.fine) t.whole.is_there

pub next : (r : PacketRun) (f : ℕ) (frame other : List ℕ) (left before mid after : Option (List ℕ)) → Taken r f frame left before mid
    → after ≡ append_known mid (r.command.frame r.input f) → Progress r (f + 1) 0 other left before after
next r f frame other left before mid after t wrote =
    let none : start_of r (f + 1) + 0 ≡ start_of r (f + 1) = omega arith in
    record {
      found = t.whole.found;
      searched = t.whole.searched;
      passed = passed r f frame left before mid t;
      written = wrote-more (command_of r).frames f before mid after t.whole.written wrote;
      holds = refl;
      within = (let within = t.whole.within in omega (arith, none, within));
      left_is = t.whole.left_is ∙ ap (λ n. Some (drop n r.input)) (sym none);
    }

-- all bytes of a frame were written, or some
pub wrote_all : (bytes frame : List ℕ) (mid after : Option (List ℕ)) → bytes ≡ frame → after ≡ append_known mid bytes → after ≡ append_known mid frame
wrote_all bytes frame mid after is wrote = wrote ∙ ap (append_known mid) is

pub wrote_some : (bytes frame : List ℕ) (n : ℕ) (mid after : Option (List ℕ)) → bytes ≡ frame → n < length bytes → after ≡ append_known mid (take n bytes) → (n < length frame) × (after ≡ append_known mid (take n frame))
wrote_some bytes frame n mid after same short wrote = (subst (λ (xs : List ℕ). n < length xs) same short, wrote ∙ ap (λ xs. append_known mid (take n xs)) same)

-- all bytes up to the end of the frame were taken
took : (r : PacketRun) (f : ℕ) (frame : List ℕ) (left before now : Option (List ℕ)) → Taken r f frame left before now → Took (command_of r) left (f + 1)
took r f frame left before now t = t.whole.left_is ∙ ap (λ n. Some (drop n r.input)) (sym (starts-next (slots_of r) r.input r.head f t.whole.found t.whole.searched))

pub write_failed : (r : PacketRun) (f n : ℕ) (frame : List ℕ) (left before mid after : Option (List ℕ)) → Taken r f frame left before mid
    → n < length (r.command.frame r.input f) → after ≡ append_known mid (take n (r.command.frame r.input f)) → WriteFailed (command_of r).frames (Took (command_of r) left) before after
write_failed r f n frame left before mid after t short wrote = record {
  frame = f;
  sent = n;
  passed = passed r f frame left before mid t;
  short = short;
  written = wrote_part (command_of r).frames f n before mid after t.whole.written wrote;
  account = took r f frame left before mid t;
}

-- memory is asked for at the frame, and there is none
pub wants_memory : (r : PacketRun) (f : ℕ) (frame : List ℕ) (left before now : Option (List ℕ)) → r.command.opens f ≡ true → Taken r f frame left before now
    → WantsMemory (command_of r).frames (Took (command_of r) left) before now
wants_memory r f frame left before now opens t = record {
  frame = f;
  opens = opens;
  passed = passed r f frame left before now t;
  written = t.whole.written;
  account = took r f frame left before now t;
}

-- ---- a read failed

pub read_failed : (r : PacketRun) (f held : ℕ) (old new : List ℕ) (left left' before now : Option (List ℕ)) → f < r.limit → length new ≡ 204 * slots_of r f
    → Progress r f held old left before now → StoppedBelow held new (drop (start_of r f + held) r.input) left' → ReadFailed (command_of r).frames (λ g seat. Stopped (command_of r) left' g) seats.In before now
read_failed r f held old new left left' before now less size so_far stop =
    let below = stop.below in
    let more = start-more (slots_of r) r.head f in
    let rises = start-later (slots_of r) r.head (f + 1) r.limit (omega (arith, less)) in
    let next = starts-next (slots_of r) r.input r.head f so_far.found so_far.searched in
    let end = starts-found (slots_of r) r.input r.head r.limit so_far.found so_far.searched (omega (arith, less)) in
    record {
      frame = f;
      passed = so_far.passed;
      written = so_far.written;
      account = record {
        taken = start_of r f + held + stop.taken;
        left_is = stop.left_is ∙ ap Some (drop-drop stop.taken (start_of r f + held) r.input);
        from = (let within = starts-within (slots_of r) r.input r.head f so_far.found so_far.searched in omega (arith, within));
        below = omega (arith, below, more, size, next);
        most = omega (arith, below, more, size, rises, end);
      };
    }

-- ---- the limit of frames

at_limit : (limit : ℕ) → (if limit == limit then Some TooLong else None) ≡ Some TooLong
at_limit limit = rw (eq-eqb limit limit refl) refl

first-of : (a b c : Option CodeFault) (x : CodeFault) → a ≡ Some x → first_some (a ∷ b ∷ c ∷ []) ≡ Some x
first-of a b c x is = rw is refl

module _ (r : PacketRun) (frame : List ℕ) (left left' before now : Option (List ℕ)) (so_far : Progress r r.limit 0 frame left before now) where
  pub ended_at_limit : drop (start_of r r.limit + 0) r.input ≡ [] → left' ≡ Some [] → Finished (command_of r) r.limit before now left'
  ended_at_limit empty gone =
      let size = length-drop (start_of r r.limit + 0) r.input in
      let nothing : length (drop (start_of r r.limit + 0) r.input) ≡ 0 = ap length empty in
      finished r r.limit left' before now so_far.found so_far.searched so_far.passed so_far.written (omega (arith, size, nothing)) gone

  pub too_long : HaveSlots r → 0 < length (drop (start_of r r.limit + 0) r.input) → left' ≡ Some (drop 1 (drop (start_of r r.limit + 0) r.input)) → Refused (command_of r).frames (TookAtMost (command_of r) left') TooLong before now
  too_long have more one =
      let size = length-drop (start_of r r.limit + 0) r.input in
      let next = start-more (slots_of r) r.head r.limit in
      let some = have r.limit in
      refused r r.limit (start_of r r.limit + 0 + 1) TooLong left' before now so_far.found so_far.searched so_far.passed so_far.written
      (refusal-parts r r.limit (there r r.limit (omega (arith, size, more))) ∙ first-of _ _ _ TooLong (at_limit r.limit))
      (one ∙ ap Some (drop-drop 1 (start_of r r.limit + 0) r.input)) (omega (arith, next, some))

  pub stopped_at_limit : HaveSlots r → 0 < r.limit → left' ≡ Some (drop (start_of r r.limit + 0) r.input) → ReadFailed (command_of r).frames (λ g seat. Stopped (command_of r) left' g) seats.In before now
  stopped_at_limit have few rest =
      let more = start-more (slots_of r) r.head r.limit in
      let some = have r.limit in
      let next = starts-next (slots_of r) r.input r.head r.limit so_far.found so_far.searched in
      let end = starts-found (slots_of r) r.input r.head r.limit so_far.found so_far.searched few in
      record {
        frame = r.limit;
        passed = so_far.passed;
        written = so_far.written;
        account = record {
          taken = start_of r r.limit + 0;
          left_is = rest;
          from = omega (arith, end);
          below = omega (arith, more, some, next);
          most = omega (arith, end);
        };
      }
