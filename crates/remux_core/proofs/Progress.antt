-- How far the frames of the inputs have come.
use Rattle.std.proofs.Common.{◌≡◌, ℕ, zero, suc, ◌+◌, ◌-◌, ◌*◌, ◌<◌, ◌≤◌, ◌⊎◌, true, false, List, [], length, take, drop, Some, refl, ap, sym, ◌∙◌, subst, arith, inl, inr}
use Rattle.std.proofs.lemmas.List.{drop_all}
use Rattle.std.proofs.lemmas.Bool.{cases_lt, cases_Bool, lt-ltb}
use Rattle.std.specs.declared.option.Option.{Option}
use Rattle.isdbt_base.specs.declared.kinds.Layer.{Layer}
use Rattle.isdbt_base.specs.Plans.{Schedule, IsPlan}
use Rattle.isdbt_base.specs.Epochs.{last_start, begins_later}
use Rattle.edge_io.specs.declared.shelf.Seat.{Seat}
use Rattle.edge_io.specs.Known.{append_known}
use Rattle.edge_io.specs.FrameAnswers.{FaultKind, frame_refused, read_failed, write_failed, no_memory, Passed, Wrote, Refused, WriteFailed, FaultAnswer}
use Rattle.edge_io.proofs.FrameAnswers.{wrote-none, wrote-more, wrote_part, passed-more, ended-refused}
use Rattle.remux_core.specs.declared.fault.RemuxFault.{RemuxFault}
use Rattle.remux_core.specs.declared.fault.RemuxFault.TheVariants.{TooLong, NoMemory}
use Rattle.remux_core.specs.declared.inputs.Inputs.{Inputs}
use Rattle.isdbt_base.specs.Outcome.{product}
use Rattle.remux_core.specs.Multiplex.{filled, placed_before, data_frames, frame_count, packet_count, written_frame}
use Rattle.remux_core.specs.Asking.{StandsAt}
use Rattle.remux_core.specs.Refusals.{seat_of}
use Rattle.remux_core.specs.Frames.{packets_of}
use Rattle.remux_core.specs.Parts.{HasSync, IsWhole}
use Rattle.remux_core.specs.Answers.{IsUsed, Tells, Took, bytes_before, remux_command, remux_account, TookAtMost}
use Rattle.remux_core.specs.Reading.{input_of, FrameRead, FrameFault}
use Rattle.remux_core.specs.Epoch.{Progress, DataDone}
use Rattle.remux_core.proofs.Places.{placed_before-zero, placed_before-next, filled-last, used-last, data_frames-more, data_frames-most, frame_count-some}
use Rattle.remux_core.proofs.Refusing.{read_length, synced, refusal-too_long}

-- the inputs before the first frame
pub begin : (p : Schedule) (input : Layer → List ℕ) (limit : ℕ) (i : Inputs) (left : Seat → Option (List ℕ)) (before : Option (List ℕ)) →
    ((x : Layer) → 0 < packets_of p.first x → (input_of i x).ended ≡ false) → ((x : Layer) → packets_of p.first x ≡ 0 → (input_of i x).ended ≡ true) → Tells p left input →
    Progress p input limit 0 i left before before
begin p input limit i left before used unused tells = record {
  ready = record { stands = stands; left_is = left_is; unused = λ x none. (unused x none, tells.unused x none) };
  sync = λ x k less there. absurd (let e = placed_before-zero p x in omega (arith, e, less));
  whole = whole;
  passed = λ f less. absurd (omega (arith, less));
  written = wrote-none (remux_command p input limit) before;
}
  where
    empty : (x : Layer) → (input_of i x).ended ≡ true → length (input x) ≡ 0
    empty x e = elim (cases_lt 0 (packets_of p.first x)) [
      | inl some ↦ absurd (let k = used x some in cc)
      | inr none ↦ ap length (tells.unused x (omega (arith, none)))
    ]

    stands : (x : Layer) → StandsAt (placed_before p x 0) (input x) (input_of i x).ended
    stands x = (let z = placed_before-zero p x in record { goes_on = λ e. omega (arith, z); done = λ e. (let n = empty x e in omega (arith, n)) })

    left_is : Took p left input (bytes_before p 0)
    left_is x is = tells.used x is ∙ ap (λ n. Some (drop (188 * n) (input x))) (sym (placed_before-zero p x))

    whole : (x : Layer) → (input_of i x).ended ≡ true → IsWhole (input x)
    whole x e = (let n = empty x e in omega (arith, n))

-- ---- one frame more

-- so many frames, and the packets of the next frame were read
pub record Turn (p : Schedule) (input : Layer → List ℕ) (limit f : ℕ) (i j : Inputs) (left left' : Seat → Option (List ℕ)) (before after : Option (List ℕ)) : Type 0 where
  pub so_far : Progress p input limit f i left before after
  pub read : FrameRead p input limit f j left'

-- the packets up to the frame's end begin with the sync byte
synced_all : (p : Schedule) (input : Layer → List ℕ) (limit f : ℕ) (i j : Inputs) (left left' : Seat → Option (List ℕ)) (before after : Option (List ℕ)) →
    Turn p input limit f i j left left' before after →
    (x : Layer) (k : ℕ) → k < placed_before p x (f + 1) → 188 * k < length (input x) → HasSync (input x) k
synced_all p input limit f i j left left' before after t x k less there =
    elim (cases_lt k (placed_before p x f)) [
      | inl below ↦ t.so_far.sync x k below there
      | inr above ↦ (let n = placed_before-next p x f in synced (placed_before p x f) (filled p x f) (input x) (input_of j x) k (t.read.read.each x) (t.read.good x) (omega (arith, above)) (omega (arith, n, less)) there)
    ]

-- an input that has ended has whole packets
whole_all : (p : Schedule) (input : Layer → List ℕ) (limit f : ℕ) (i j : Inputs) (left left' : Seat → Option (List ℕ)) (before after : Option (List ℕ)) →
    Turn p input limit f i j left left' before after →
    (x : Layer) → (input_of j x).ended ≡ true → IsWhole (input x)
whole_all p input limit f i j left left' before after t x ended =
    elim (cases_Bool (input_of i x).ended) [
      | inl was ↦ t.so_far.whole x was
      | inr goes ↦
          (let read = t.read.read.each x in
          let len = read_length (placed_before p x f) (filled p x f) (input x) (input_of j x) read in
          let count = read.count in
          let past = read.next.done ended in
          let full = (t.so_far.ready.stands x).goes_on goes in
          let whole = (t.read.good x).whole in
          omega (arith, len, count, past, full, whole))
    ]

passed_turn : (p : Schedule) (input : Layer → List ℕ) (limit f : ℕ) (i j : Inputs) (left left' : Seat → Option (List ℕ)) (before after : Option (List ℕ)) →
    Turn p input limit f i j left left' before after → f < frame_count p (packet_count input) → Passed (remux_command p input limit) (f + 1)
passed_turn p input limit f i j left left' before after t there =
    passed-more (remux_command p input limit) f t.so_far.passed t.read.fine (lt-ltb f (frame_count p (packet_count input)) there)

pub next : (p : Schedule) (input : Layer → List ℕ) (limit f : ℕ) (i j : Inputs) (left left' : Seat → Option (List ℕ)) (before mid after : Option (List ℕ)) →
    Turn p input limit f i j left left' before mid → f < frame_count p (packet_count input) →
    after ≡ append_known mid (written_frame p input f) → Progress p input limit (f + 1) j left' before after
next p input limit f i j left left' before mid after t there wrote = record {
  ready = t.read.read.ready;
  sync = synced_all p input limit f i j left left' before mid t;
  whole = whole_all p input limit f i j left left' before mid t;
  passed = passed_turn p input limit f i j left left' before mid t there;
  written = wrote-more (remux_command p input limit) f before mid after t.so_far.written wrote;
}

-- ---- faults

-- the packets of frame f were read, and no more
pub took_frame : (p : Schedule) (input : Layer → List ℕ) (f : ℕ) (left : Seat → Option (List ℕ)) → Took p left input (bytes_before p (f + 1)) → TookAtMost p left input (f + 1)
took_frame p input f left took = record { taken = bytes_before p (f + 1); left_is = took; most = λ x used. omega arith }

-- a frame could not be read, or is refused
pub fault_answer : (p : Schedule) (input : Layer → List ℕ) (limit f : ℕ) (i : Inputs) (left left' : Seat → Option (List ℕ)) (before after : Option (List ℕ)) (fault : RemuxFault) (kind : FaultKind) → Progress p input limit f i left before after → f < limit → FrameFault p input limit f left' fault kind →
    FaultAnswer (remux_command p input limit) (remux_account p input limit left') before after fault kind
fault_answer p input limit f i left left' before after fault frame_refused so_far less said = record {
  frame = f;
  ended = ended-refused (remux_command p input limit) f fault before after so_far.passed so_far.written said.why;
  account = took_frame p input f left' said.left_is;
}
fault_answer p input limit f i left left' before after fault (read_failed seat) so_far less said = record { frame = f; passed = so_far.passed; written = so_far.written; account = inl (less, said) }
fault_answer p input limit f i left left' before after fault write_failed so_far less said = absurd said
fault_answer p input limit f i left left' before after fault no_memory so_far less said = absurd said

pub write_fault : (p : Schedule) (input : Layer → List ℕ) (limit f n : ℕ) (i j : Inputs) (left left' : Seat → Option (List ℕ)) (before mid after : Option (List ℕ)) →
    Turn p input limit f i j left left' before mid → f < frame_count p (packet_count input) →
    (n < length (written_frame p input f)) × (after ≡ append_known mid (take n (written_frame p input f))) →
    WriteFailed (remux_command p input limit) (λ g. Took p left' input (bytes_before p g)) before after
write_fault p input limit f n i j left left' before mid after t there part = record {
  frame = f;
  sent = n;
  passed = passed_turn p input limit f i j left left' before mid t there;
  short = part.0;
  written = wrote_part (remux_command p input limit) f n before mid after t.so_far.written part.1;
  account = t.read.read.ready.left_is;
}

-- the frame at the limit is there
pub too_long : (p : Schedule) (input : Layer → List ℕ) (limit : ℕ) (i : Inputs) (left : Seat → Option (List ℕ)) (before after : Option (List ℕ)) →
    Progress p input limit limit i left before after → limit < frame_count p (packet_count input)
    → Refused (remux_command p input limit) (TookAtMost p left input) TooLong before after
too_long p input limit i left before after so_far there = record {
  frame = limit;
  ended = ended-refused (remux_command p input limit) limit TooLong before after so_far.passed so_far.written (refusal-too_long p input limit (lt-ltb limit (frame_count p (packet_count input)) there));
  account = record { taken = bytes_before p limit; left_is = so_far.ready.left_is; most = λ x used. (let n = placed_before-next p x limit in omega (arith, n)) };
}

-- there is no memory where an epoch opens
pub no_memory_at : (p : Schedule) (input : Layer → List ℕ) (limit f : ℕ) (i : Inputs) (left : Seat → Option (List ℕ)) (before after : Option (List ℕ)) →
    Progress p input limit f i left before after → (f ≡ 0) ⊎ (begins_later p f ≡ true)
    → FaultAnswer (remux_command p input limit) (remux_account p input limit left) before after NoMemory no_memory
no_memory_at p input limit f i left before after so_far (inl first) = inl (sym (wrote-none (remux_command p input limit) before ∙ sym written), tells)
  where
    written : after ≡ append_known before (product (written_frame p input) 0)
    written = subst (λ (g : ℕ). Wrote (remux_command p input limit) g before after) first so_far.written

    tells : Tells p left input
    tells = record {
      used = λ x used. so_far.ready.left_is x used ∙ ap (λ g. Some (drop (188 * placed_before p x g) (input x))) first ∙ ap (λ n. Some (drop (188 * n) (input x))) (placed_before-zero p x);
      unused = λ x none. (so_far.ready.unused x none).1;
    }
no_memory_at p input limit f i left before after so_far (inr begins) = inr (record {
  frame = f;
  opens = begins;
  passed = subst (Passed (remux_command p input limit)) (let e : f ≡ f + 0 = omega arith in e) so_far.passed;
  written = so_far.written;
  account = subst (λ (g : ℕ). Took p left input (bytes_before p g)) (let e : f ≡ f + 0 = omega arith in e) so_far.ready.left_is;
})

-- ---- the last epoch

-- a packet of some layer stands behind the frames before a frame
abbrev pub HasMore : Schedule → (Layer → List ℕ) → ℕ → Type 0
HasMore p input f = (x : Layer) × IsUsed p x × (188 * placed_before p x f < length (input x))

-- the frame before a frame of the last epoch had packets
abbrev pub HadMore : Schedule → (Layer → List ℕ) → ℕ → Type 0
HadMore p input f = (k : ℕ) → f ≡ last_start p + suc k → HasMore p input (last_start p + k)

-- some packet came
pub some_more : (p : Schedule) (input : Layer → List ℕ) (limit f : ℕ) (i j : Inputs) (left left' : Seat → Option (List ℕ)) (before after : Option (List ℕ)) →
    Turn p input limit f i j left left' before after → (x : Layer) × (0 < (input_of j x).count) → HasMore p input f
some_more p input limit f i j left left' before after t (x, some) =
    let count = (t.read.read.each x).count in
    let long : 188 * placed_before p x f < length (input x) = omega (arith, count, some) in
    elim (cases_lt 0 (packets_of p.first x)) [
      | inl used ↦ (x, used, long)
      | inr unused ↦ absurd (let e = ap length (t.so_far.ready.unused x (omega (arith, unused))).1 in omega (arith, e, long))
    ]

more_frames : (p : Schedule) (input : Layer → List ℕ) (k : ℕ) → IsPlan p → HasMore p input (last_start p + k) → k < data_frames p (packet_count input)
more_frames p input k plan (x, used, more) =
    data_frames-more p (packet_count input) x k plan (omega (arith, more)) (used-last p x plan used)

-- a frame of the last epoch with input packets is there, and so is the next
pub there-next : (p : Schedule) (input : Layer → List ℕ) (f : ℕ) → IsPlan p → last_start p ≤ f → HasMore p input f → f + 1 < frame_count p (packet_count input)
there-next p input f plan past more =
    let e : f ≡ last_start p + (f - last_start p) = omega (arith, past) in
    let less = more_frames p input (f - last_start p) plan (subst (HasMore p input) e more) in
    let all = frame_count-some p (packet_count input) (omega (arith, less)) in
    omega (arith, less, all, past)

-- the count of data frames, where no packet is left
data_frames-all : (p : Schedule) (input : Layer → List ℕ) (k : ℕ) → IsPlan p → ((x : Layer) → length (input x) ≤ 188 * placed_before p x (last_start p + k)) →
    HadMore p input (last_start p + k) → k ≡ data_frames p (packet_count input)
data_frames-all p input zero plan all last =
    let most = data_frames-most p (packet_count input) 0 plan (λ x. (let n = all x in omega (arith, n))) in
    omega (arith, most)
data_frames-all p input (suc k) plan all last =
    let most = data_frames-most p (packet_count input) (suc k) plan (λ x. (let n = all x in omega (arith, n))) in
    let less = more_frames p input k plan (last k refl) in
    omega (arith, most, less)

-- no packet is left behind the frames so far
pub data_done : (p : Schedule) (input : Layer → List ℕ) (limit f : ℕ) (i : Inputs) (left left' : Seat → Option (List ℕ)) (before after : Option (List ℕ)) → IsPlan p →
    last_start p ≤ f → Progress p input limit f i left before after → HadMore p input f →
    ((x : Layer) → length (input x) ≤ 188 * placed_before p x f) → ((x : Layer) → IsUsed p x → left' (seat_of x) ≡ Some []) → DataDone p input limit f before after left'
data_done p input limit f i left left' before after plan past so_far last all none = record {
  good = λ x. record { whole = whole x; sync = λ k there. (let short = all x in so_far.sync x k (omega (arith, there, short)) there) };
  frames_is = is ∙ ap (λ n. last_start p + n) (data_frames-all p input (f - last_start p) plan (λ x. subst (λ (g : ℕ). length (input x) ≤ 188 * placed_before p x g) is (all x)) (subst (HadMore p input) is last));
  behind = all;
  passed = so_far.passed;
  written = so_far.written;
  left_is = none;
}
  where
    is : f ≡ last_start p + (f - last_start p)
    is = omega (arith, past)

    whole : (x : Layer) → IsWhole (input x)
    whole x = elim (cases_Bool (input_of i x).ended) [
      | inl was ↦ so_far.whole x was
      | inr goes ↦ (let full = (so_far.ready.stands x).goes_on goes in let short = all x in omega (arith, full, short))
    ]

-- all inputs have ended within the frames so far
pub all_ended : (p : Schedule) (input : Layer → List ℕ) (limit f : ℕ) (i : Inputs) (left : Seat → Option (List ℕ)) (before after : Option (List ℕ)) → IsPlan p →
    last_start p ≤ f → Progress p input limit f i left before after → HadMore p input f →
    ((x : Layer) → (input_of i x).ended ≡ true) → DataDone p input limit f before after left
all_ended p input limit f i left before after plan past so_far last ended =
    data_done p input limit f i left left before after plan past so_far last all
    (λ x used. so_far.ready.left_is x used ∙ ap Some (drop_all (bytes_before p f x) (input x) (all x)))
  where
    all : (x : Layer) → length (input x) ≤ 188 * placed_before p x f
    all x = (so_far.ready.stands x).done (ended x)

-- no packet came
pub nothing_more : (p : Schedule) (input : Layer → List ℕ) (limit f : ℕ) (i j : Inputs) (left left' : Seat → Option (List ℕ)) (before after : Option (List ℕ)) → IsPlan p →
    last_start p ≤ f → Turn p input limit f i j left left' before after → HadMore p input f →
    ((x : Layer) → (input_of j x).count ≡ 0) → DataDone p input limit f before after left'
nothing_more p input limit f i j left left' before after plan past t last none =
    data_done p input limit f i left left' before after plan past t.so_far last all
    (λ x used. t.read.read.ready.left_is x used ∙ ap Some (drop_all (bytes_before p (f + 1) x) (input x) (let short = all x in let n = placed_before-next p x f in omega (arith, short, n))))
  where
    all : (x : Layer) → length (input x) ≤ 188 * placed_before p x f
    all x = elim (cases_lt 0 (packets_of p.first x)) [
      | inl used ↦ (let count = (t.read.read.each x).count in let zero = none x in let fills = filled-last p x f plan past in let some = used-last p x plan used in omega (arith, count, zero, fills, some))
      | inr unused ↦ (let e = ap length (t.so_far.ready.unused x (omega (arith, unused))).1 in omega (arith, e))
    ]

-- the next frame had packets
pub had-next : (p : Schedule) (input : Layer → List ℕ) (f : ℕ) → last_start p ≤ f → HasMore p input f → HadMore p input (f + 1)
had-next p input f past more k e = subst (HasMore p input) (let same : f ≡ last_start p + k = omega (arith, e) in same) more

pub had-none : (p : Schedule) (input : Layer → List ℕ) → HadMore p input (last_start p)
had-none p input k e = absurd (omega (arith, e))
