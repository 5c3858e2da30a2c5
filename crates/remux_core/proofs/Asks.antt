-- Where the last epoch begins at the limit: each input that goes on is asked for one byte more.
use Rattle.std.proofs.Common.{◌≡◌, ◌≢◌, ℕ, ◌+◌, ◌*◌, ◌≤◌, ◌<◌, Bool, false, List, [], length, drop, Some, Err, refl, sym, ap, ◌∙◌, subst, arith, inl, inr}
use Rattle.std.specs.declared.option.Option.{Option}
use Rattle.std.proofs.lemmas.List.{drop_all}
use Rattle.std.proofs.lemmas.Bool.{cases_lt, cases_Bool, lt-ltb}
use Rattle.isdbt_base.specs.declared.kinds.Layer.{Layer}
use Rattle.isdbt_base.specs.declared.kinds.Layer.TheVariants.{A, B, C}
use Rattle.isdbt_base.specs.Epochs.{last_start}
use Rattle.isdbt_base.specs.Plans.{Schedule, IsPlan}
use Rattle.edge_io.specs.declared.shelf.Seat.{Seat}
use Rattle.edge_io.specs.Seats.{OthersKeep}
use Rattle.edge_io.specs.Causes.{Rose, Cause, Reading}
use Rattle.edge_io.specs.FrameAnswers.{FaultKind, frame_refused, read_failed, write_failed, no_memory, FaultAnswer, FaultCause}
use Rattle.edge_io.proofs.FrameAnswers.{ended-refused}
use Rattle.remux_core.specs.declared.fault.RemuxFault.{RemuxFault}
use Rattle.remux_core.specs.declared.inputs.Inputs.{Inputs}
use Rattle.remux_core.specs.Asking.{StandsAt, NoMore, AskFault, AskFaultCause}
use Rattle.remux_core.specs.Multiplex.{placed_before, data_frames, frame_count, packet_count}
use Rattle.remux_core.specs.Refusals.{seat_of}
use Rattle.remux_core.specs.Frames.{packets_of}
use Rattle.remux_core.specs.Parts.{IsGood}
use Rattle.remux_core.specs.Answers.{remux_kind, RemuxAnswer, IsUsed, Took, TookAtMost, bytes_before, place_of, remux_command, remux_account, IsInputSeat, Finished}
use Rattle.remux_core.specs.Reading.{input_of, Stands, IsReady}
use Rattle.remux_core.specs.Epoch.{Progress}
use Rattle.remux_core.proofs.Layers.{same_or_other}
use Rattle.remux_core.proofs.Places.{placed_before-next, filled-last, used-last, data_frames-more, data_frames-most, frame_count-some, frame_count-none}
use Rattle.remux_core.proofs.Readings.{goes-used}
use Rattle.remux_core.proofs.Refusing.{refusal-too_long}
use Rattle.remux_core.proofs.Draining.{finished}

-- the first n layers were asked and have no more, and nothing more was taken
pub record Asked (p : Schedule) (input : Layer → List ℕ) (limit n : ℕ) (left : Seat → Option (List ℕ)) : Type 0 where
  pub took : Took p left input (bytes_before p limit)
  pub none : (y : Layer) → IsUsed p y → place_of y < n → left (seat_of y) ≡ Some []
  pub short : (y : Layer) → place_of y < n → length (input y) ≤ bytes_before p limit y

pub asked-none : (p : Schedule) (input : Layer → List ℕ) (limit : ℕ) (left : Seat → Option (List ℕ)) → Took p left input (bytes_before p limit) → Asked p input limit 0 left
asked-none p input limit left took = record { took = took; none = λ y used less. absurd (omega (arith, less)); short = λ y less. absurd (omega (arith, less)) }

-- a seat was asked, and has no more
abbrev pub MoreAt : Seat → Bool → (Seat → Option (List ℕ)) → (Seat → Option (List ℕ)) → Type 0
MoreAt seat ended left left' = OthersKeep seat left left' × ((first : ℕ) (bytes : List ℕ) → StandsAt first bytes ended → left seat ≡ Some (drop (188 * first) bytes) → NoMore first bytes (left' seat))

-- a seat was asked, with this fault
abbrev pub FaultAt : Seat → Bool → (Seat → Option (List ℕ)) → (Seat → Option (List ℕ)) → RemuxFault → Type 0
FaultAt seat ended left left' fault = OthersKeep seat left left' × ((first : ℕ) (bytes : List ℕ) → StandsAt first bytes ended → left seat ≡ Some (drop (188 * first) bytes) → AskFault first bytes seat (left' seat) fault (remux_kind fault))

pub asked-more : (p : Schedule) (input : Layer → List ℕ) (limit : ℕ) (i : Inputs) (l mid mid' : Seat → Option (List ℕ)) (x : Layer) → IsReady p input limit i l →
    Asked p input limit (place_of x) mid → MoreAt (seat_of x) (input_of i x).ended mid mid' → Asked p input limit (place_of x + 1) mid'
asked-more p input limit i l mid mid' x ready so_far (others, said) = record { took = took; none = none; short = short }
  where
    no_more : IsUsed p x → NoMore (placed_before p x limit) (input x) (mid' (seat_of x))
    no_more used = said (placed_before p x limit) (input x) (ready.stands x) (so_far.took x used)

    short_here : length (input x) ≤ bytes_before p limit x
    short_here = elim (cases_lt 0 (packets_of p.first x)) [
      | inl used ↦ (no_more used).short
      | inr unused ↦ (let e = ap length (ready.unused x (omega (arith, unused))).1 in omega (arith, e))
    ]

    took : Took p mid' input (bytes_before p limit)
    took y used = elim (same_or_other x y) [
      | inl same ↦ rw same ((no_more (subst (IsUsed p) same used)).left_is ∙ ap Some (sym (drop_all (bytes_before p limit x) (input x) short_here)))
      | inr other ↦ others (seat_of y) other.0 ∙ so_far.took y used
    ]

    none : (y : Layer) → IsUsed p y → place_of y < place_of x + 1 → mid' (seat_of y) ≡ Some []
    none y used less = elim (same_or_other x y) [
      | inl same ↦ rw same ((no_more (subst (IsUsed p) same used)).left_is)
      | inr other ↦ others (seat_of y) other.0 ∙ so_far.none y used (let ne = other.1 in omega (arith, less, ne))
    ]

    short : (y : Layer) → place_of y < place_of x + 1 → length (input y) ≤ bytes_before p limit y
    short y less = elim (same_or_other x y) [
      | inl same ↦ rw same short_here
      | inr other ↦ so_far.short y (let ne = other.1 in omega (arith, less, ne))
    ]

-- ---- no more anywhere

pub no_more_frames : (p : Schedule) (input : Layer → List ℕ) (limit : ℕ) (i : Inputs) (l left : Seat → Option (List ℕ)) (before after : Option (List ℕ)) → IsPlan p →
    last_start p ≡ limit → Progress p input limit limit i l before after → Asked p input limit 3 left → Finished p input limit limit before after left
no_more_frames p input limit i l left before after plan begins so_far asked =
    finished p input limit limit before after left plan (λ x none. (so_far.ready.unused x none).1) (omega (arith, begins, count)) all (so_far.passed, so_far.written) good (λ x used. asked.none x used (place-few x))
  where
    place-few : (x : Layer) → place_of x < 3
    place-few A = omega arith
    place-few B = omega arith
    place-few C = omega arith

    all : (x : Layer) → length (input x) ≤ 188 * placed_before p x limit
    all x = asked.short x (place-few x)

    most : data_frames p (packet_count input) ≤ 0
    most = data_frames-most p (packet_count input) 0 plan (λ x. (
        let short = all x in
        let e = ap (placed_before p x) (let same : limit ≡ last_start p + 0 = omega (arith, begins) in same) in
        omega (arith, short, e)))

    count : frame_count p (packet_count input) ≡ last_start p
    count = frame_count-none p (packet_count input) (omega (arith, most))

    good : (x : Layer) → IsGood (input x)
    good x = record {
      whole = elim (cases_Bool (input_of i x).ended) [
        | inl was ↦ so_far.whole x was
        | inr goes ↦ (let full = (so_far.ready.stands x).goes_on goes in let short = all x in omega (arith, full, short))
      ];
      sync = λ k there. (let short = all x in so_far.sync x k (omega (arith, there, short)) there);
    }

-- ---- one byte more

-- one byte more of one layer
abbrev more_of : Layer → Layer → ℕ
more_of A A = 1
more_of A B = 0
more_of A C = 0
more_of B A = 0
more_of B B = 1
more_of B C = 0
more_of C A = 0
more_of C B = 0
more_of C C = 1

more_of-le : (x y : Layer) → more_of x y ≤ 1
more_of-le A A = omega arith
more_of-le A B = omega arith
more_of-le A C = omega arith
more_of-le B A = omega arith
more_of-le B B = omega arith
more_of-le B C = omega arith
more_of-le C A = omega arith
more_of-le C B = omega arith
more_of-le C C = omega arith

more_of-same : (x : Layer) → more_of x x ≡ 1
more_of-same A = refl
more_of-same B = refl
more_of-same C = refl

more_of-other : (x y : Layer) → place_of y ≢ place_of x → more_of x y ≡ 0
more_of-other A A ne = absurd (ne refl)
more_of-other A B ne = refl
more_of-other A C ne = refl
more_of-other B A ne = refl
more_of-other B B ne = absurd (ne refl)
more_of-other B C ne = refl
more_of-other C A ne = refl
more_of-other C B ne = refl
more_of-other C C ne = absurd (ne refl)

-- the frame at the limit has room for it
took_one : (p : Schedule) (input : Layer → List ℕ) (limit : ℕ) (mid mid' : Seat → Option (List ℕ)) (x : Layer) → IsPlan p → last_start p ≡ limit →
    Took p mid input (bytes_before p limit) → OthersKeep (seat_of x) mid mid' →
    mid' (seat_of x) ≡ Some (drop (bytes_before p limit x + 1) (input x)) → TookAtMost p mid' input (limit + 1)
took_one p input limit mid mid' x plan begins took others one = record {
  taken = λ y. bytes_before p limit y + more_of x y;
  left_is = left_is;
  most = λ y used. (
      let n = placed_before-next p y limit in
      let fills = filled-last p y limit plan (omega (arith, begins)) in
      let some = used-last p y plan used in
      let le = more_of-le x y in
      omega (arith, n, fills, some, le));
}
  where
    left_is : Took p mid' input (λ y. bytes_before p limit y + more_of x y)
    left_is y used = elim (same_or_other x y) [
      | inl same ↦ rw same (one ∙ ap (λ n. Some (drop (bytes_before p limit x + n) (input x))) (sym (more_of-same x)))
      | inr other ↦ others (seat_of y) other.0 ∙ took y used
          ∙ ap (λ n. Some (drop n (input y))) (let none = more_of-other x y other.1 in let e : bytes_before p limit y ≡ bytes_before p limit y + more_of x y = omega (arith, none) in e)
    ]

ask_fault : (p : Schedule) (input : Layer → List ℕ) (limit : ℕ) (i : Inputs) (l mid mid' : Seat → Option (List ℕ)) (x : Layer) (before after : Option (List ℕ)) (fault : RemuxFault) (kind : FaultKind) → IsPlan p → last_start p ≡ limit → Progress p input limit limit i l before after →
    IsUsed p x → Asked p input limit (place_of x) mid → OthersKeep (seat_of x) mid mid' → AskFault (placed_before p x limit) (input x) (seat_of x) (mid' (seat_of x)) fault kind →
    FaultAnswer (remux_command p input limit) (remux_account p input limit mid') before after fault kind
ask_fault p input limit i l mid mid' x before after fault frame_refused plan begins so_far used asked others said =
    let long = said.long in
    let e = ap (placed_before p x) (let same : last_start p + 0 ≡ limit = omega (arith, begins) in same) in
    let more = data_frames-more p (packet_count input) x 0 plan (omega (arith, e, long)) (used-last p x plan used) in
    let count = frame_count-some p (packet_count input) more in
    record {
      frame = limit;
      ended = ended-refused (remux_command p input limit) limit fault before after so_far.passed so_far.written (refusal-too_long p input limit (lt-ltb limit (frame_count p (packet_count input)) (omega (arith, count, more, begins))) ∙ ap Some (sym said.fault_is));
      account = took_one p input limit mid mid' x plan begins asked.took others said.left_is;
    }
ask_fault p input limit i l mid mid' x before after fault (read_failed seat) plan begins so_far used asked others said = record {
  frame = limit;
  passed = so_far.passed;
  written = so_far.written;
  account = inr (refl, record { begins = begins; layer = x; seat_is = said.0; left_is = took; earlier = earlier });
}
  where
    took : Took p mid' input (bytes_before p limit)
    took y used' = elim (same_or_other x y) [
      | inl same ↦ rw same said.1
      | inr other ↦ others (seat_of y) other.0 ∙ asked.took y used'
    ]

    earlier : (y : Layer) → IsUsed p y → place_of y < place_of x → mid' (seat_of y) ≡ Some []
    earlier y used' less = elim (same_or_other x y) [
      | inl same ↦ absurd (let e = ap place_of same in omega (arith, e, less))
      | inr other ↦ others (seat_of y) other.0 ∙ asked.none y used' less
    ]
ask_fault p input limit i l mid mid' x before after fault write_failed plan begins so_far used asked others said = absurd said
ask_fault p input limit i l mid mid' x before after fault no_memory plan begins so_far used asked others said = absurd said

pub asked_fault : (p : Schedule) (input : Layer → List ℕ) (limit : ℕ) (i : Inputs) (l mid mid' : Seat → Option (List ℕ)) (x : Layer) (before after : Option (List ℕ)) (fault : RemuxFault) → IsPlan p → last_start p ≡ limit → Progress p input limit limit i l before after →
    (input_of i x).ended ≡ false → Asked p input limit (place_of x) mid → FaultAt (seat_of x) (input_of i x).ended mid mid' fault → RemuxAnswer p input limit before after mid' (Err fault)
asked_fault p input limit i l mid mid' x before after fault plan begins so_far goes asked at =
    let used = goes-used p input limit i l x so_far.ready goes in
    ask_fault p input limit i l mid mid' x before after fault (remux_kind fault) plan begins so_far used asked at.0 (at.1 (placed_before p x limit) (input x) (so_far.ready.stands x) (asked.took x used))

-- ---- when a question may fail

pub ask_cause : (p : Schedule) (x : Layer) (seat : Seat) (shelf mid shelf' : Cause → ℕ) (sink : ℕ) (kind : FaultKind) → IsUsed p x → seat ≡ seat_of x → mid ≡ shelf →
    AskFaultCause seat mid shelf' kind → FaultCause (IsInputSeat p) shelf shelf' sink sink kind
ask_cause p x seat shelf mid shelf' sink frame_refused used is kept said = (said ∙ kept, refl)
ask_cause p x seat shelf mid shelf' sink (read_failed failed) used is kept said =
    ((x, used, said.0 ∙ is), rw said.0 (subst (λ (k : Cause → ℕ). Rose (k (Reading seat)) (shelf' (Reading seat))) kept said.1), refl)
ask_cause p x seat shelf mid shelf' sink write_failed used is kept said = absurd said
ask_cause p x seat shelf mid shelf' sink no_memory used is kept said = absurd said

-- a layer that goes on is used
pub stands-used : (p : Schedule) (f : ℕ) (i : Inputs) (o : Seat → Bool) (x : Layer) → Stands p f i o → (input_of i x).ended ≡ false → IsUsed p x
stands-used p f i o x s goes = elim (cases_lt 0 (packets_of p.first x)) [ inl some ↦ some | inr none ↦ absurd (let e = s.unused x (omega (arith, none)) in cc) ]
