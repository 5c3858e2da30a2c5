-- One layer's packets of a frame, as they are read.
use Rattle.std.proofs.Common.{◌≡◌, ℕ, ◌+◌, ◌-◌, ◌*◌, ◌≤◌, ◌<◌, min, true, false, List, [], length, take, drop, Some, IfSome, refl, sym, ap, ◌∙◌, subst, arith, rules, inl, inr, drop-drop, length-drop}
use Rattle.std.specs.declared.option.Option.{Option}
use Rattle.std.proofs.lemmas.List.{take_min, drop_all}
use Rattle.std.proofs.lemmas.Bool.{cases_lt, cases_Bool}
use Rattle.isdbt_base.specs.declared.kinds.Layer.{Layer}
use Rattle.isdbt_base.specs.declared.kinds.Layer.TheVariants.{A, B, C}
use Rattle.isdbt_base.specs.Plans.{Schedule}
use Rattle.edge_io.specs.declared.shelf.Seat.{Seat}
use Rattle.edge_io.specs.declared.shelf.Seat.TheVariants as seats
use Rattle.edge_io.specs.Known.{drop_known}
use Rattle.edge_io.specs.Seats.{OthersKeep}
use Rattle.remux_core.specs.declared.layer_input.LayerInput.{LayerInput}
use Rattle.remux_core.specs.declared.inputs.Inputs.{Inputs}
use Rattle.remux_core.specs.Asking.{StandsAt}
use Rattle.remux_core.specs.Frames.{packets_of}
use Rattle.remux_core.specs.Multiplex.{filled, placed_before}
use Rattle.remux_core.specs.Refusals.{seat_of}
use Rattle.remux_core.specs.Answers.{IsUsed, bytes_before, place_of, ReadStopped}
use Rattle.remux_core.specs.Reading.{input_of, IsRead, IsReady, AreRead}
use Rattle.remux_core.proofs.Places.{placed_before-next}

-- what a call of `read` says, layer by layer
pub record Step (t : ℕ) (old new : LayerInput) (left left' : Option (List ℕ)) : Type 0 where
  pub nothing : old.ended ≡ true → (new.count ≡ 0) × (new.ended ≡ true)
  pub ended : old.ended ≡ false → new.count < 188 * t → new.ended ≡ true
  pub goes_on : old.ended ≡ false → 188 * t ≤ new.count → new.ended ≡ false
  pub count : old.ended ≡ false → IfSome left (λ bytes. new.count ≡ min (188 * t) (length bytes))
  pub taken : left' ≡ drop_known new.count left
  pub copied : IfSome left (λ bytes. take new.count new.bytes.items ≡ take new.count bytes)

take_none : (n : ℕ) → take {A = ℕ} n [] ≡ []
take_none n = search rules

ended_read : (first t : ℕ) (bytes : List ℕ) (old new : LayerInput) (left left' : Option (List ℕ)) → Step t old new left left' → StandsAt first bytes old.ended →
    old.ended ≡ true → IsRead first t bytes new
ended_read first t bytes old new left left' s at is =
    let nothing = s.nothing is in
    let past = at.done is in
    let none : drop (188 * first) bytes ≡ [] = drop_all (188 * first) bytes past in
    record {
      part = ap (λ n. take n new.bytes.items) nothing.0 ∙ sym (ap (take (188 * t)) none ∙ take_none (188 * t));
      count = nothing.0 ∙ (let e : 0 ≡ min (188 * t) (length bytes - 188 * first) = omega (arith, past) in e);
      next = record { goes_on = λ e. absurd (let k = nothing.1 in cc); done = λ e. omega (arith, past) };
    }

going_read : (first t : ℕ) (bytes : List ℕ) (old new : LayerInput) (left left' : Option (List ℕ)) → Step t old new left left' → StandsAt first bytes old.ended →
    left ≡ Some (drop (188 * first) bytes) → old.ended ≡ false → IsRead first t bytes new
going_read first t bytes old new left left' s at is goes =
    let full = at.goes_on goes in
    let P : Option (List ℕ) → Type 0 = λ o. IfSome o (λ xs. take new.count new.bytes.items ≡ take new.count xs) in
    let Q : Option (List ℕ) → Type 0 = λ o. IfSome o (λ xs. new.count ≡ min (188 * t) (length xs)) in
    let here : take new.count new.bytes.items ≡ take new.count (drop (188 * first) bytes) = subst P is s.copied in
    let fits : new.count ≡ min (188 * t) (length (drop (188 * first) bytes)) = subst Q is (s.count goes) in
    let count : new.count ≡ min (188 * t) (length bytes - 188 * first) = fits ∙ ap (min (188 * t)) (length-drop (188 * first) bytes) in
    record {
      part = here ∙ ap (λ n. take n (drop (188 * first) bytes)) fits ∙ take_min (188 * t) (drop (188 * first) bytes);
      count = count;
      next = elim (cases_lt new.count (188 * t)) [
        | inl short ↦ (let e = s.ended goes short in record { goes_on = λ k. absurd (cc); done = λ k. omega (arith, count, short, full) })
        | inr all ↦ (let e = s.goes_on goes all in record { goes_on = λ k. omega (arith, count, all, full); done = λ k. absurd (cc) })
      ];
    }

-- the next packets are read
pub is_read : (first t : ℕ) (bytes : List ℕ) (old new : LayerInput) (left left' : Option (List ℕ)) → Step t old new left left' → StandsAt first bytes old.ended →
    (old.ended ≡ false → left ≡ Some (drop (188 * first) bytes)) → IsRead first t bytes new
is_read first t bytes old new left left' s at is =
    elim (cases_Bool old.ended) [
      | inl ended ↦ ended_read first t bytes old new left left' s at ended
      | inr goes ↦ going_read first t bytes old new left left' s at (is goes) goes
    ]

-- and taken from the seat
pub is_taken : (first t : ℕ) (bytes : List ℕ) (old new : LayerInput) (left left' : Option (List ℕ)) → Step t old new left left' → IsRead first t bytes new →
    left ≡ Some (drop (188 * first) bytes) → left' ≡ Some (drop (188 * (first + t)) bytes)
is_taken first t bytes old new left left' s r is =
    s.taken ∙ ap (drop_known new.count) is ∙ ap Some (drop-drop new.count (188 * first) bytes)
    ∙ elim (cases_lt new.count (188 * t)) [
      | inl short ↦ (let count = r.count in ap Some (drop_all (188 * first + new.count) bytes (omega (arith, count, short)) ∙ sym (drop_all (188 * (first + t)) bytes (omega (arith, count, short)))))
      | inr all ↦ (let count = r.count in ap (λ n. Some (drop n bytes)) (let e : 188 * first + new.count ≡ 188 * (first + t) = omega (arith, count, all) in e))
    ]

-- ---- the layers one after another

-- a call of `read` at a seat
abbrev pub StepAt : Seat → ℕ → LayerInput → LayerInput → (Seat → Option (List ℕ)) → (Seat → Option (List ℕ)) → Type 0
StepAt seat t old new left left' = Step t old new (left seat) (left' seat) × OthersKeep seat left left'

pub at_seat : (seat : Seat) (t : ℕ) (old new : LayerInput) (left left' : Seat → Option (List ℕ)) → old.seat ≡ seat → StepAt old.seat t old new left left' → StepAt seat t old new left left'
at_seat seat t old new left left' e s = subst (λ (s : Seat). StepAt s t old new left left') e s

-- a seat that goes on has a used layer
pub goes-used : (p : Schedule) (input : Layer → List ℕ) (f : ℕ) (i : Inputs) (left : Seat → Option (List ℕ)) (x : Layer) → IsReady p input f i left → (input_of i x).ended ≡ false → IsUsed p x
goes-used p input f i left x ready goes = elim (cases_lt 0 (packets_of p.first x)) [ inl some ↦ some | inr none ↦ absurd (let e = (ready.unused x (omega (arith, none))).0 in cc) ]

-- what a layer has left, when it is its turn and afterwards
record LayerRead (p : Schedule) (input : Layer → List ℕ) (f : ℕ) (x : Layer) (new : LayerInput) (left' : Seat → Option (List ℕ)) : Type 0 where
  read : IsRead (placed_before p x f) (filled p x f) (input x) new
  taken : IsUsed p x → left' (seat_of x) ≡ Some (drop (bytes_before p (f + 1) x) (input x))

layer_read : (p : Schedule) (input : Layer → List ℕ) (f : ℕ) (i : Inputs) (x : Layer) (new : LayerInput) (left mid mid' left' : Seat → Option (List ℕ)) →
    IsReady p input f i left → mid (seat_of x) ≡ left (seat_of x) → StepAt (seat_of x) (filled p x f) (input_of i x) new mid mid' → left' (seat_of x) ≡ mid' (seat_of x) →
    LayerRead p input f x new left'
layer_read p input f i x new left mid mid' left' ready same step kept =
    let has : IsUsed p x → mid (seat_of x) ≡ Some (drop (bytes_before p f x) (input x)) = (λ used. same ∙ ready.left_is x used) in
    let read = is_read (placed_before p x f) (filled p x f) (input x) (input_of i x) new (mid (seat_of x)) (mid' (seat_of x)) step.0 (ready.stands x) (λ goes. has (goes-used p input f i left x ready goes)) in
    record {
      read = read;
      taken = λ used. kept ∙ is_taken (placed_before p x f) (filled p x f) (input x) (input_of i x) new (mid (seat_of x)) (mid' (seat_of x)) step.0 read (has used) ∙ ap (λ n. Some (drop (188 * n) (input x))) (sym (placed_before-next p x f));
    }

pub all_read : (p : Schedule) (input : Layer → List ℕ) (f : ℕ) (i : Inputs) (a b c : LayerInput) (l0 l1 l2 l3 : Seat → Option (List ℕ)) →
    StepAt seats.A (filled p A f) i.a a l0 l1 → StepAt seats.B (filled p B f) i.b b l1 l2 → StepAt seats.C (filled p C f) i.c c l2 l3 → IsReady p input f i l0 →
    AreRead p input f (record { a = a; b = b; c = c }) l3
all_read p input f i a b c l0 l1 l2 l3 sa sb sc ready = record {
  each = each;
  ready = record {
    stands = λ x. subst (λ n. StandsAt n (input x) (input_of (record { a = a; b = b; c = c }) x).ended) (sym (placed_before-next p x f)) (each x).next;
    left_is = λ x. elim x as (λ y. IsUsed p y → l3 (seat_of y) ≡ Some (drop (bytes_before p (f + 1) y) (input y))) [ A ↦ for_a.taken | B ↦ for_b.taken | C ↦ for_c.taken ];
    unused = λ x none. (ended x (ready.unused x none).0, (ready.unused x none).1);
  };
}
  where
    for_a : LayerRead p input f A a l3
    for_a = layer_read p input f i A a l0 l0 l1 l3 ready refl sa (sc.1 seats.A (λ e. cc) ∙ sb.1 seats.A (λ e. cc))

    for_b : LayerRead p input f B b l3
    for_b = layer_read p input f i B b l0 l1 l2 l3 ready (sa.1 seats.B (λ e. cc)) sb (sc.1 seats.B (λ e. cc))

    for_c : LayerRead p input f C c l3
    for_c = layer_read p input f i C c l0 l2 l3 l3 ready (sb.1 seats.C (λ e. cc) ∙ sa.1 seats.C (λ e. cc)) sc refl

    each : (x : Layer) → IsRead (placed_before p x f) (filled p x f) (input x) (input_of (record { a = a; b = b; c = c }) x)
    each A = for_a.read
    each B = for_b.read
    each C = for_c.read

    ended : (x : Layer) → (input_of i x).ended ≡ true → (input_of (record { a = a; b = b; c = c }) x).ended ≡ true
    ended A e = (sa.0.nothing e).1
    ended B e = (sb.0.nothing e).1
    ended C e = (sc.0.nothing e).1

-- ---- a read that failed

-- so many bytes were taken of the layer where it stopped
pub record StopAt (seat : Seat) (t : ℕ) (old : LayerInput) (left left' : Seat → Option (List ℕ)) : Type 0 where
  pub goes : old.ended ≡ false
  pub count : ℕ
  pub few : count < 188 * t
  pub taken : left' seat ≡ drop_known count (left seat)
  pub within : IfSome (left seat) (λ bytes. count ≤ length bytes)
  pub others : OthersKeep seat left left'

pub stop_at : (seat : Seat) (t : ℕ) (old : LayerInput) (left left' : Seat → Option (List ℕ)) → old.seat ≡ seat → old.ended ≡ false →
    ((n : ℕ) × (n < 188 * t) × (left' old.seat ≡ drop_known n (left old.seat)) × IfSome (left old.seat) (λ bytes. n ≤ length bytes)) → OthersKeep old.seat left left' →
    StopAt seat t old left left'
stop_at seat t old left left' e goes some others =
    subst (λ (s : Seat). StopAt s t old left left') e (record { goes = goes; count = some.0; few = some.1; taken = some.2; within = some.3; others = others })

stopped : (p : Schedule) (input : Layer → List ℕ) (f : ℕ) (i : Inputs) (x : Layer) (left mid mid' : Seat → Option (List ℕ)) → IsReady p input f i left →
    mid (seat_of x) ≡ left (seat_of x) → StopAt (seat_of x) (filled p x f) (input_of i x) mid mid' →
    ((y : Layer) → IsUsed p y → place_of y < place_of x → mid' (seat_of y) ≡ Some (drop (bytes_before p (f + 1) y) (input y))) →
    ((y : Layer) → IsUsed p y → place_of x < place_of y → mid' (seat_of y) ≡ Some (drop (bytes_before p f y) (input y))) → ReadStopped p input f mid' (seat_of x)
stopped p input f i x left mid mid' ready same stop earlier later =
    let used : IsUsed p x = goes-used p input f i left x ready stop.goes in
    let b = placed_before-next p x f in
    let few = stop.few in
    let left_is = same ∙ ready.left_is x used in
    let P : Option (List ℕ) → Type 0 = λ o. IfSome o (λ bytes. stop.count ≤ length bytes) in
    let rest : stop.count ≤ length (drop (bytes_before p f x) (input x)) = subst P left_is stop.within in
    let size = length-drop (bytes_before p f x) (input x) in
    let full = (ready.stands x).goes_on stop.goes in
    record {
      layer = x;
      seat_is = refl;
      taken = bytes_before p f x + stop.count;
      within = omega (arith, rest, size, full);
      from = omega arith;
      below = omega (arith, b, few);
      left_is = stop.taken ∙ ap (drop_known stop.count) left_is ∙ ap Some (drop-drop stop.count (bytes_before p f x) (input x));
      earlier = earlier;
      later = later;
    }

pub stopped_a : (p : Schedule) (input : Layer → List ℕ) (f : ℕ) (i : Inputs) (l0 l1 : Seat → Option (List ℕ)) → StopAt seats.A (filled p A f) i.a l0 l1 →
    IsReady p input f i l0 → ReadStopped p input f l1 seats.A
stopped_a p input f i l0 l1 stop ready = stopped p input f i A l0 l0 l1 ready refl stop (λ y used less. absurd (none y less)) later
  where
    none : (y : Layer) → place_of y < 0 → ⊥
    none y less = omega (arith, less)

    later : (y : Layer) → IsUsed p y → 0 < place_of y → l1 (seat_of y) ≡ Some (drop (bytes_before p f y) (input y))
    later A used less = absurd (omega (arith, less))
    later B used less = stop.others seats.B (λ e. cc) ∙ ready.left_is B used
    later C used less = stop.others seats.C (λ e. cc) ∙ ready.left_is C used

pub stopped_b : (p : Schedule) (input : Layer → List ℕ) (f : ℕ) (i : Inputs) (a : LayerInput) (l0 l1 l2 : Seat → Option (List ℕ)) → StepAt seats.A (filled p A f) i.a a l0 l1 →
    StopAt seats.B (filled p B f) i.b l1 l2 → IsReady p input f i l0 → ReadStopped p input f l2 seats.B
stopped_b p input f i a l0 l1 l2 sa stop ready = stopped p input f i B l0 l1 l2 ready (sa.1 seats.B (λ e. cc)) stop earlier later
  where
    earlier : (y : Layer) → IsUsed p y → place_of y < 1 → l2 (seat_of y) ≡ Some (drop (bytes_before p (f + 1) y) (input y))
    earlier A used less = (layer_read p input f i A a l0 l0 l1 l2 ready refl sa (stop.others seats.A (λ e. cc))).taken used
    earlier B used less = absurd (omega (arith, less))
    earlier C used less = absurd (omega (arith, less))

    later : (y : Layer) → IsUsed p y → 1 < place_of y → l2 (seat_of y) ≡ Some (drop (bytes_before p f y) (input y))
    later A used less = absurd (omega (arith, less))
    later B used less = absurd (omega (arith, less))
    later C used less = stop.others seats.C (λ e. cc) ∙ sa.1 seats.C (λ e. cc) ∙ ready.left_is C used

pub stopped_c : (p : Schedule) (input : Layer → List ℕ) (f : ℕ) (i : Inputs) (a b : LayerInput) (l0 l1 l2 l3 : Seat → Option (List ℕ)) →
    StepAt seats.A (filled p A f) i.a a l0 l1 → StepAt seats.B (filled p B f) i.b b l1 l2 → StopAt seats.C (filled p C f) i.c l2 l3 → IsReady p input f i l0 →
    ReadStopped p input f l3 seats.C
stopped_c p input f i a b l0 l1 l2 l3 sa sb stop ready = stopped p input f i C l0 l2 l3 ready (sb.1 seats.C (λ e. cc) ∙ sa.1 seats.C (λ e. cc)) stop earlier later
  where
    earlier : (y : Layer) → IsUsed p y → place_of y < 2 → l3 (seat_of y) ≡ Some (drop (bytes_before p (f + 1) y) (input y))
    earlier A used less = (layer_read p input f i A a l0 l0 l1 l3 ready refl sa (stop.others seats.A (λ e. cc) ∙ sb.1 seats.A (λ e. cc))).taken used
    earlier B used less = (layer_read p input f i B b l0 l1 l2 l3 ready (sa.1 seats.B (λ e. cc)) sb (stop.others seats.B (λ e. cc))).taken used
    earlier C used less = absurd (omega (arith, less))

    later : (y : Layer) → IsUsed p y → 2 < place_of y → l3 (seat_of y) ≡ Some (drop (bytes_before p f y) (input y))
    later A used less = absurd (omega (arith, less))
    later B used less = absurd (omega (arith, less))
    later C used less = absurd (omega (arith, less))
