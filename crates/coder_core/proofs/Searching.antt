-- How far the search for the first frame head has come.
use Rattle.std.proofs.Common.{◌≡◌, ℕ, ◌+◌, ◌-◌, ◌*◌, ◌≤◌, ◌<◌, min, Bool, true, false, List, [], ◌∷◌, length, take, drop, refl, ap, sym, ◌∙◌, subst, arith, inl, inr, drop-drop, length-drop}
use Rattle.std.specs.Prelude.{Some, None, Err, ◌==◌, nat_lt, if◌then◌else◌}
use Rattle.std.specs.declared.option.Option.{Option}
use Rattle.std.proofs.lemmas.Bool.{cases_lt, ne_eqb, eq-eqb, lt-ltb}
use Rattle.std.proofs.lemmas.List.{drop_all, take_all}
use Rattle.isdbt_base.specs.Outcome.{first_some}
use Rattle.ts_packet.specs.Packets.{piece, piece_count}
use Rattle.edge_io.specs.declared.shelf.Seat.TheVariants as seats
use Rattle.coder_core.specs.declared.fault.CodeFault.{CodeFault}
use Rattle.coder_core.specs.declared.fault.CodeFault.TheVariants.{Truncated, NoHead, TooLong}
use Rattle.coder_core.specs.InputFrames.{first_head, bears_head}
use Rattle.coder_core.specs.FrameChecks.{information_in}
use Rattle.bts_info.specs.Information.{has_head}
use Rattle.coder_core.specs.CodeRefusals.{search_limit, packet_refusal, looked_at, search_refusal}
use Rattle.edge_io.specs.FrameAnswers.{frame_refused}
use Rattle.coder_core.specs.Answers.{code_kind, StoppedInSearch, Found, SearchRefused, SearchFault, SearchAnswer}
use Rattle.edge_io.specs.Reading.{FilledTo, StoppedBelow}
use Rattle.isdbt_base.proofs.Finding.{find-none_of, find-first_of, find-passes}
use Rattle.coder_core.proofs.CodeStarts.{search_stop-least}
use Rattle.coder_core.proofs.FirstCauses.{no_cause, first_cause}

-- so many packets were taken, all good and without the head flag
pub record Searched (input : List ℕ) (n : ℕ) (left : Option (List ℕ)) : Type 0 where
  pub good : (k : ℕ) → k < n → packet_refusal input k ≡ None
  pub no_head : (k : ℕ) → k < n → bears_head (piece 204 input k) ≡ false
  pub whole : 204 * n ≤ length input
  pub left_is : left ≡ Some (drop (204 * n) input)

pub begin : (input : List ℕ) (left : Option (List ℕ)) → left ≡ Some input → Searched input 0 left
begin input left told = record { good = λ k less. absurd (omega (arith, less)); no_head = λ k less. absurd (omega (arith, less)); whole = omega arith; left_is = told }

-- ---- the definitions, where the search stands at packet i

-- the first head is packet i or one behind it
pub head-from : (input : List ℕ) (i h : ℕ) → ((k : ℕ) → k < i → bears_head (piece 204 input k) ≡ false) → first_head input ≡ Some h → i ≤ h
unfolding first_head
head-from input i h none found =
    elim (cases_lt h i) [
      | inr le ↦ le
      | inl less ↦ absurd (let clear = none h less in let set = find-passes (λ k. bears_head (piece 204 input k)) 0 (piece_count 204 input) h found in cc)
    ]

head-none : (input : List ℕ) → ((k : ℕ) → k < piece_count 204 input → bears_head (piece 204 input k) ≡ false) → first_head input ≡ None
unfolding first_head
head-none input none = find-none_of (λ k. bears_head (piece 204 input k)) (piece_count 204 input) none

head-first : (input : List ℕ) (i : ℕ) → i < piece_count 204 input → bears_head (piece 204 input i) ≡ true → ((k : ℕ) → k < i → bears_head (piece 204 input k) ≡ false) → first_head input ≡ Some i
unfolding first_head
head-first input i less here before = find-first_of (λ k. bears_head (piece 204 input k)) (piece_count 204 input) i less here before

looked-past : (input : List ℕ) (i : ℕ) (o : Option ℕ) → first_head input ≡ o → ((k : ℕ) → k < i → bears_head (piece 204 input k) ≡ false) → 204 * i < length input → i < looked_at input o
looked-past input i None is none less = omega (arith, less)
looked-past input i (Some h) is none less = (let le = head-from input i h none is in omega (arith, le))

first_of_two : (a b : Option CodeFault) (x : CodeFault) → a ≡ Some x → first_some (a ∷ b ∷ []) ≡ Some x
first_of_two a b x e = rw e refl

second_of_two : (a b : Option CodeFault) → a ≡ None → first_some (a ∷ b ∷ []) ≡ first_some (b ∷ [])
second_of_two a b e = rw e refl

-- packet i is refused
refused_at : (input : List ℕ) (i : ℕ) (fault : CodeFault) → ((k : ℕ) → k < i → packet_refusal input k ≡ None) → ((k : ℕ) → k < i → bears_head (piece 204 input k) ≡ false) → 204 * i < length input → packet_refusal input i ≡ Some fault
    → search_refusal input ≡ Some fault
unfolding search_refusal
refused_at input i fault good none less here =
    first_of_two _ _ fault (first_cause (packet_refusal input) (looked_at input (first_head input)) i fault (looked-past input i (first_head input) refl none less) here good)

-- all packets were looked at
refused_without : (input : List ℕ) (i : ℕ) → ((k : ℕ) → k < i → packet_refusal input k ≡ None) → ((k : ℕ) → k < i → bears_head (piece 204 input k) ≡ false) → 0 < i → length input ≡ 204 * i
    → search_refusal input ≡ Some NoHead
unfolding search_refusal
refused_without input i good none some size =
    let count : piece_count 204 input ≡ i = omega (arith, size) in
    let head : first_head input ≡ None = head-none input (λ k less. none k (omega (arith, less, count))) in
    let many : (length input == 0) ≡ false = ne_eqb (length input) 0 (λ e. omega (arith, e, size, some)) in
    rw head (second_of_two _ _ (no_cause (packet_refusal input) (piece_count 204 input) (λ k less. good k (omega (arith, less, count)))) ∙ rw many refl)

-- the head was found, in packet i
not_refused : (input : List ℕ) (i : ℕ) → first_head input ≡ Some i → ((k : ℕ) → k < i + 1 → packet_refusal input k ≡ None) → search_refusal input ≡ None
unfolding search_refusal
not_refused input i found good =
    rw found (second_of_two _ _ (no_cause (packet_refusal input) (i + 1) good) ∙ refl)

-- ---- a packet more

-- so many bytes of packet i came into the buffer
pub record Came (input : List ℕ) (i count : ℕ) (packet : List ℕ) (left : Option (List ℕ)) : Type 0 where
  pub count_is : count ≡ min 204 (length input - 204 * i)
  pub front : take count packet ≡ take count (drop (204 * i) input)
  pub left_is : left ≡ Some (drop (204 * i + count) input)

pub came : (input : List ℕ) (i : ℕ) (old new : List ℕ) (left left' : Option (List ℕ)) (n : ℕ) → length new ≡ 204 → Searched input i left
    → FilledTo 0 old new (drop (204 * i) input) left' n → Came input i n new left'
came input i old new left left' n size so_far filled =
    let rest = length-drop (204 * i) input in
    let same : n - 0 ≡ n = omega arith in
    record {
      count_is = (let e = filled.count in omega (arith, e, rest, size));
      front = filled.front ∙ ap (λ m. take m (drop (204 * i) input)) same;
      left_is = filled.left_is ∙ ap (λ m. Some (drop m (drop (204 * i) input))) same ∙ ap Some (drop-drop n (204 * i) input);
    }

-- nothing came
pub nothing_first : (input : List ℕ) (i : ℕ) (left left' : Option (List ℕ)) (packet : List ℕ) → i ≡ 0 → Searched input i left → Came input i 0 packet left' → (input ≡ []) × (left' ≡ Some [])
nothing_first input i left left' packet first so_far now =
    let none : input ≡ [] = empty input (let e = now.count_is in omega (arith, e, first)) in
    (none, now.left_is ∙ ap Some (drop_all (204 * i + 0) input (let e = now.count_is in omega (arith, e, first))))
  where
    empty : (xs : List ℕ) → length xs ≡ 0 → xs ≡ []
    empty [] e = refl
    empty (x ∷ xs) e = absurd (omega (arith, e))

pub nothing_more : (input : List ℕ) (i : ℕ) (left : Option (List ℕ)) → 0 < i → length input ≤ 204 * i → Searched input i left → search_refusal input ≡ Some NoHead
nothing_more input i left some short so_far = refused_without input i so_far.good so_far.no_head some (let whole = so_far.whole in omega (arith, whole, short))

pub refused : (input : List ℕ) (i : ℕ) (left : Option (List ℕ)) (fault : CodeFault) → 204 * i < length input → Searched input i left → Some fault ≡ packet_refusal input i → search_refusal input ≡ Some fault
refused input i left fault more so_far here = refused_at input i fault so_far.good so_far.no_head more (sym here)

-- ---- the packet is good

cut-some : (far short : Bool) (x y : CodeFault) (o : Option CodeFault) → short ≡ true → first_some ((if far then Some x else None) ∷ (if short then Some y else None) ∷ o ∷ []) ≡ None → ⊥
cut-some true true x y o e none = (cc)
cut-some false true x y o e none = (cc)
cut-some far false x y o e none = (cc)

pub not_short : (input : List ℕ) (i : ℕ) → packet_refusal input i ≡ None → 204 * (i + 1) ≤ length input
not_short input i none =
    elim (cases_lt (length input) (204 * (i + 1))) [
      | inr le ↦ le
      | inl less ↦ absurd (cut-some (i == search_limit) (nat_lt (length input) (204 * (i + 1))) TooLong (Truncated seats.In (length input - 204 * i)) _ (lt-ltb (length input) (204 * (i + 1)) less) none)
    ]

below_next : (P : ℕ → Type 0) (i : ℕ) → ((k : ℕ) → k < i → P k) → P i → (k : ℕ) → k < i + 1 → P k
below_next P i before here k less = elim (cases_lt k i) [ inl below ↦ before k below | inr above ↦ (let e : i ≡ k = omega (arith, above, less) in subst P e here) ]

-- the packet in the buffer
packet_is : (input : List ℕ) (i n : ℕ) (packet : List ℕ) (left : Option (List ℕ)) → length packet ≡ 204 → 204 * (i + 1) ≤ length input → Came input i n packet left → packet ≡ piece 204 input i
packet_is input i n packet left size whole now =
    let full : n ≡ 204 = (let e = now.count_is in omega (arith, e, whole)) in
    sym (take_all n packet (omega (arith, size, full))) ∙ now.front ∙ ap (λ m. take m (drop (204 * i) input)) full

head_is : (input : List ℕ) (i : ℕ) (packet : List ℕ) → length packet ≡ 204 → packet ≡ piece 204 input i → has_head (information_in packet 0) ≡ bears_head (piece 204 input i)
head_is input i packet size is = ap (λ xs. has_head (take 8 (drop 188 xs))) (take_all 204 packet (omega (arith, size)) ∙ is)

pub next : (input : List ℕ) (i n : ℕ) (packet : List ℕ) (left left' : Option (List ℕ)) → length packet ≡ 204 → Searched input i left → Came input i n packet left' → packet_refusal input i ≡ None → has_head (information_in packet 0) ≡ false
    → Searched input (i + 1) left'
next input i n packet left left' size so_far now good none =
    let whole = not_short input i good in
    let is = packet_is input i n packet left' size whole now in
    let full : 204 * i + n ≡ 204 * (i + 1) = (let e = now.count_is in omega (arith, e, whole)) in
    record {
      good = below_next (λ k. packet_refusal input k ≡ None) i so_far.good good;
      no_head = below_next (λ k. bears_head (piece 204 input k) ≡ false) i so_far.no_head (sym (head_is input i packet size is) ∙ none);
      whole = whole;
      left_is = now.left_is ∙ ap (λ m. Some (drop m input)) full;
    }

pub found : (input : List ℕ) (i n : ℕ) (packet : List ℕ) (left left' : Option (List ℕ)) → length packet ≡ 204 → Searched input i left → Came input i n packet left' → packet_refusal input i ≡ None → has_head (information_in packet 0) ≡ true
    → Found input i packet left'
found input i n packet left left' size so_far now good set =
    let whole = not_short input i good in
    let is = packet_is input i n packet left' size whole now in
    let full : 204 * i + n ≡ 204 * (i + 1) = (let e = now.count_is in omega (arith, e, whole)) in
    let first = head-first input i (omega (arith, whole)) (sym (head_is input i packet size is) ∙ set) so_far.no_head in
    record {
      found = first;
      searched = not_refused input i first (below_next (λ k. packet_refusal input k ≡ None) i so_far.good good);
      whole = whole;
      packet_is = is;
      left_is = now.left_is ∙ ap (λ m. Some (drop m input)) full;
    }

-- ---- a read failed

pub read_stopped : (input : List ℕ) (i : ℕ) (new : List ℕ) (left left' : Option (List ℕ)) → length new ≤ 204 → 204 * i + length new ≤ 204 * search_limit + 1 → Searched input i left → StoppedBelow 0 new (drop (204 * i) input) left'
    → (taken : ℕ) × (left' ≡ Some (drop taken input)) × StoppedInSearch input taken
read_stopped input i new left left' size within so_far stop = (
  204 * i + stop.taken,
  stop.left_is ∙ ap Some (drop-drop stop.taken (204 * i) input),
  record {
    packets = i;
    good = so_far.good;
    no_head = so_far.no_head;
    from = omega arith;
    below = (let less = stop.below in omega (arith, less, size));
    most = (let less = stop.below in omega (arith, less, within));
  },
)

-- ---- answers

too_far : (input : List ℕ) (i : ℕ) → i ≡ search_limit → packet_refusal input i ≡ Some TooLong
too_far input i at = rw (eq-eqb i search_limit at) refl

pub refused_far : (input : List ℕ) (i : ℕ) (left : Option (List ℕ)) → i ≡ search_limit → 204 * i < length input → Searched input i left → search_refusal input ≡ Some TooLong
refused_far input i left at more so_far = refused input i left TooLong more so_far (sym (too_far input i at))

-- the search is refused, and so many bytes of the next packet came
pub search_refused : (input : List ℕ) (i n : ℕ) (fault : CodeFault) (left left' : Option (List ℕ)) → Searched input i left → n ≤ 204 → 204 * i + n ≤ 204 * search_limit + 1 → left' ≡ Some (drop (204 * i + n) input) → search_refusal input ≡ Some fault
    → SearchRefused input left' fault
search_refused input i n fault left left' so_far most within rest why = record {
  refused = why;
  taken = 204 * i + n;
  left_is = rest;
  most = (let least = search_stop-least input i so_far.good so_far.no_head so_far.whole in omega (arith, least, most, within));
}

pub packet_answer : (input packet : List ℕ) (left : Option (List ℕ)) (fault : CodeFault) → code_kind fault ≡ frame_refused → SearchRefused input left fault → SearchAnswer input packet left (Err fault)
packet_answer input packet left fault kind refused = subst (SearchFault input left fault) (sym kind) refused
