-- Why a frame is refused, by the packets that were read for it.
use Rattle.std.proofs.Common.{◌≡◌, ◌≢◌, ℕ, ◌+◌, ◌-◌, ◌*◌, ◌%◌, ◌<◌, ◌≤◌, Bool, true, false, List, [], ◌∷◌, length, take, drop, get_or, None, Some, refl, sym, ap, ◌∙◌, arith, inl, inr}
use Rattle.std.specs.declared.option.Option.{Option}
use Rattle.std.specs.Option.{option_or}
use Rattle.std.specs.Prelude.{◌&&◌, ◌==◌, if◌then◌else◌}
use Rattle.std.proofs.lemmas.Bool.{cases_lt, ne_eqb, eq-eqb}
use Rattle.std.proofs.lemmas.List.{get_or-take, get_or-drop}
use Rattle.isdbt_base.specs.declared.kinds.Layer.{Layer}
use Rattle.isdbt_base.specs.declared.kinds.Layer.TheVariants.{A, B, C}
use Rattle.isdbt_base.specs.Plans.{Schedule}
use Rattle.isdbt_base.specs.Outcome.{first_some}
use Rattle.remux_core.specs.declared.fault.RemuxFault.{RemuxFault}
use Rattle.remux_core.specs.declared.fault.RemuxFault.TheVariants.{Truncated, TooLong}
use Rattle.remux_core.specs.declared.layer_input.LayerInput.{LayerInput}
use Rattle.remux_core.specs.declared.packets.Part.{Part}
use Rattle.remux_core.specs.declared.packets.Part.TheVariants.{Good, NoSync, Cut}
use Rattle.remux_core.specs.Multiplex.{filled, placed_before}
use Rattle.remux_core.specs.Refusals.{seat_of, refusal, is_there, too_long_at, truncated_in, bad_sync_in}
use Rattle.remux_core.specs.Parts.{HasSync, IsWhole, IsGood, Says}
use Rattle.remux_core.specs.Reading.{input_of, IsRead}
use Rattle.remux_core.specs.declared.inputs.Inputs.{Inputs}
use Rattle.remux_core.specs.PacketFaults.{cut_fault, sync_fault}
use Rattle.remux_core.proofs.Parts.{length-part_of, truncated-whole, truncated-full, truncated-ended, truncated-cut, bad_sync-none, bad_sync-first}

-- ---- the bytes that were read

pub read_length : (first t : ℕ) (bytes : List ℕ) (i : LayerInput) → IsRead first t bytes i → length (take i.count i.bytes.items) ≡ i.count
read_length first t bytes i r = ap length r.part ∙ length-part_of bytes first t ∙ sym r.count

-- the first byte of a packet that was read
first_byte : (first t : ℕ) (bytes : List ℕ) (i : LayerInput) (k : ℕ) → IsRead first t bytes i → 188 * k < i.count → get_or (take i.count i.bytes.items) (188 * k) 0 ≡ get_or bytes (188 * (first + k)) 0
first_byte first t bytes i k r less =
    let count = r.count in
    let there : 188 * first + 188 * k ≡ 188 * (first + k) = omega arith in
    let within : 188 * k < 188 * t = omega (arith, less, count) in
    ap (λ xs. get_or xs (188 * k) 0) r.part ∙ get_or-take (188 * t) (drop (188 * first) bytes) (188 * k) 0 within
    ∙ get_or-drop (188 * first) bytes (188 * k) 0 ∙ ap (λ n. get_or bytes n 0) there

-- a packet that was read, by its place in the input
sync_at : (first t : ℕ) (bytes : List ℕ) (i : LayerInput) (k : ℕ) → IsRead first t bytes i → first ≤ k → 188 * (k - first) < i.count →
    HasSync (take i.count i.bytes.items) (k - first) → HasSync bytes k
sync_at first t bytes i k r from less has =
    let at : first + (k - first) ≡ k = omega (arith, from) in
    ap (λ n. get_or bytes (188 * n) 0) (sym at) ∙ sym (first_byte first t bytes i (k - first) r less) ∙ has

-- the packets of the part begin with the sync byte
pub synced : (first t : ℕ) (bytes : List ℕ) (i : LayerInput) (k : ℕ) → IsRead first t bytes i → IsGood (take i.count i.bytes.items) → first ≤ k → k < first + t →
    188 * k < length bytes → HasSync bytes k
synced first t bytes i k r good from below there =
    let len = read_length first t bytes i r in
    let count = r.count in
    let less : 188 * (k - first) < i.count = omega (arith, count, from, below, there) in
    sync_at first t bytes i k r from less (good.sync (k - first) (omega (arith, len, less)))

-- ---- one layer

-- a layer's packets of frame f were read, and this is what they are
pub record PartRead (p : Schedule) (input : Layer → List ℕ) (f : ℕ) (x : Layer) (i : LayerInput) (part : Part) : Type 0 where
  pub first : i.first ≡ placed_before p x f
  pub read : IsRead (placed_before p x f) (filled p x f) (input x) i
  pub says : Says (take i.count i.bytes.items) part

-- whole packets: the input isn't cut in this frame
whole_part : (p : Schedule) (input : Layer → List ℕ) (f : ℕ) (x : Layer) (i : LayerInput) → IsRead (placed_before p x f) (filled p x f) (input x) i →
    IsWhole (take i.count i.bytes.items) → truncated_in p input f x ≡ None
whole_part p input f x i r whole =
    let len = read_length (placed_before p x f) (filled p x f) (input x) i r in
    let count = r.count in
    elim (cases_lt i.count (188 * filled p x f)) [
      | inr all ↦ elim (cases_lt (length (input x)) (188 * placed_before p x f)) [
        | inl short ↦ truncated-ended p input f x (omega (arith, short))
        | inr long ↦ truncated-full p input f x (omega (arith, count, all, long))
      ]
      | inl short ↦ elim (cases_lt 0 i.count) [
        | inl some ↦ truncated-whole p input f x (omega (arith, len, count, short, some, whole))
        | inr none ↦ truncated-ended p input f x (omega (arith, count, short, none))
      ]
    ]

cut_says : (p : Schedule) (input : Layer → List ℕ) (f : ℕ) (x : Layer) (i : LayerInput) (part : Part) → IsRead (placed_before p x f) (filled p x f) (input x) i →
    Says (take i.count i.bytes.items) part → truncated_in p input f x ≡ cut_fault (seat_of x) part
cut_says p input f x i Good r says = whole_part p input f x i r says.whole
cut_says p input f x i (NoSync k) r says = whole_part p input f x i r says.whole
cut_says p input f x i (Cut over) r says =
    let len = read_length (placed_before p x f) (filled p x f) (input x) i r in
    let count = r.count in
    let some = says.some in
    let over_is = says.over_is in
    let rest : length (input x) % 188 ≡ over = omega (arith, len, count, some, over_is) in
    let ne : length (input x) % 188 ≢ 0 = omega (arith, rest, some) in
    truncated-cut p input f x ne (omega (arith, len, count, some, over_is)) (omega (arith, len, count, some, over_is)) ∙ ap (λ n. Some (Truncated (seat_of x) n)) rest

cut_is : (p : Schedule) (input : Layer → List ℕ) (f : ℕ) (x : Layer) (i : LayerInput) (part : Part) → PartRead p input f x i part → truncated_in p input f x ≡ cut_fault (seat_of x) part
cut_is p input f x i part r = cut_says p input f x i part r.read r.says

none_some : {X : Type 0} (x : X) → Some x ≡ None → ⊥
none_some x e = cc

sync_says : (p : Schedule) (input : Layer → List ℕ) (f : ℕ) (x : Layer) (i : LayerInput) (part : Part) → IsRead (placed_before p x f) (filled p x f) (input x) i →
    Says (take i.count i.bytes.items) part → cut_fault (seat_of x) part ≡ None → bad_sync_in p input f x ≡ sync_fault (seat_of x) (placed_before p x f) part
sync_says p input f x i Good r says uncut =
    let len = read_length (placed_before p x f) (filled p x f) (input x) i r in
    let count = r.count in
    let whole = says.whole in
    bad_sync-none p input f x (λ k from below there. synced (placed_before p x f) (filled p x f) (input x) i k r says from below (omega (arith, from, below, there, len, count, whole)))
sync_says p input f x i (NoSync k) r says uncut =
    let len = read_length (placed_before p x f) (filled p x f) (input x) i r in
    let count = r.count in
    let inside = says.within in
    let within : 188 * k < i.count = omega (arith, len, inside) in
    bad_sync-first p input f x k (omega (arith, within, count)) (omega (arith, within, count))
    (λ e. says.bad (first_byte (placed_before p x f) (filled p x f) (input x) i k r within ∙ e))
    (λ m from below. sync_at (placed_before p x f) (filled p x f) (input x) i m r from (omega (arith, from, below, within)) (says.before (m - placed_before p x f) (omega (arith, from, below))))
sync_says p input f x i (Cut over) r says uncut = absurd (none_some (Truncated (seat_of x) over) uncut)

sync_is : (p : Schedule) (input : Layer → List ℕ) (f : ℕ) (x : Layer) (i : LayerInput) (part : Part) → PartRead p input f x i part → cut_fault (seat_of x) part ≡ None →
    bad_sync_in p input f x ≡ sync_fault (seat_of x) i.first part
sync_is p input f x i part r uncut = sync_says p input f x i part r.read r.says uncut ∙ ap (λ n. sync_fault (seat_of x) n part) (sym r.first)

-- ---- the limit

at_limit : (same there : Bool) → same ≡ true → there ≡ true → (if same && there then Some TooLong else None) ≡ Some TooLong
at_limit same there e k = rw (e, k) refl

not_yet : (same there : Bool) → same ≡ false → (if same && there then Some TooLong else None) ≡ None
not_yet same there e = rw e refl

not_there : (same there : Bool) → there ≡ false → (if same && there then Some TooLong else None) ≡ None
not_there true there e = rw e refl
not_there false there e = refl

pub too_long-none : (p : Schedule) (input : Layer → List ℕ) (limit f : ℕ) → f < limit → too_long_at p input limit f ≡ None
too_long-none p input limit f less = not_yet (f == limit) (is_there p input f) (ne_eqb f limit (λ e. omega (arith, e, less)))

-- ---- all layers

-- what stands behind a cause that is there doesn't matter
behind : {X : Type 0} (a b c d e f d' e' f' : Option X) → (a ≡ None → d' ≡ d) → (b ≡ None → e' ≡ e) → (c ≡ None → f' ≡ f) →
    first_some (a ∷ b ∷ c ∷ d' ∷ e' ∷ f' ∷ []) ≡ first_some (a ∷ b ∷ c ∷ d ∷ e ∷ f ∷ [])
behind (Some x) b c d e f d' e' f' h k l = refl
behind None (Some x) c d e f d' e' f' h k l = refl
behind None None (Some x) d e f d' e' f' h k l = refl
behind None None None d e f d' e' f' h k l = rw (h refl, k refl, l refl) refl

skip : {X : Type 0} (a : Option X) (xs : List (Option X)) → a ≡ None → first_some (a ∷ xs) ≡ first_some xs
skip a xs e = rw e refl

ors : {X : Type 0} (a b c d e f : Option X) → option_or (option_or (option_or (option_or (option_or a b) c) d) e) f ≡ first_some (a ∷ b ∷ c ∷ d ∷ e ∷ f ∷ [])
ors (Some x) b c d e f = refl
ors None (Some x) c d e f = refl
ors None None (Some x) d e f = refl
ors None None None (Some x) e f = refl
ors None None None None (Some x) f = refl
ors None None None None None (Some x) = refl
ors None None None None None None = refl

-- the first cause among the packets that were read is the frame's refusal
pub refusal-read : (p : Schedule) (input : Layer → List ℕ) (limit f : ℕ) (i : Inputs) (pa pb pc : Part) → f < limit → PartRead p input f A i.a pa →
    PartRead p input f B i.b pb → PartRead p input f C i.c pc →
    option_or (option_or (option_or (option_or (option_or (cut_fault (seat_of A) pa) (cut_fault (seat_of B) pb)) (cut_fault (seat_of C) pc)) (sync_fault (seat_of A) i.a.first pa)) (sync_fault (seat_of B) i.b.first pb)) (sync_fault (seat_of C) i.c.first pc) ≡ refusal p input limit f
unfolding refusal
refusal-read p input limit f i pa pb pc less ra rb rc =
    let ca = cut_is p input f A i.a pa ra in
    let cb = cut_is p input f B i.b pb rb in
    let cd = cut_is p input f C i.c pc rc in
    ors (cut_fault (seat_of A) pa) (cut_fault (seat_of B) pb) (cut_fault (seat_of C) pc) (sync_fault (seat_of A) i.a.first pa) (sync_fault (seat_of B) i.b.first pb) (sync_fault (seat_of C) i.c.first pc)
    ∙ sym (behind (cut_fault (seat_of A) pa) (cut_fault (seat_of B) pb) (cut_fault (seat_of C) pc)
    (sync_fault (seat_of A) i.a.first pa) (sync_fault (seat_of B) i.b.first pb) (sync_fault (seat_of C) i.c.first pc)
    (bad_sync_in p input f A) (bad_sync_in p input f B) (bad_sync_in p input f C)
    (sync_is p input f A i.a pa ra) (sync_is p input f B i.b pb rb) (sync_is p input f C i.c pc rc))
    ∙ ap (λ o. first_some (o ∷ cut_fault (seat_of B) pb ∷ cut_fault (seat_of C) pc ∷ bad_sync_in p input f A ∷ bad_sync_in p input f B ∷ bad_sync_in p input f C ∷ [])) (sym ca)
    ∙ ap (λ o. first_some (truncated_in p input f A ∷ o ∷ cut_fault (seat_of C) pc ∷ bad_sync_in p input f A ∷ bad_sync_in p input f B ∷ bad_sync_in p input f C ∷ [])) (sym cb)
    ∙ ap (λ o. first_some (truncated_in p input f A ∷ truncated_in p input f B ∷ o ∷ bad_sync_in p input f A ∷ bad_sync_in p input f B ∷ bad_sync_in p input f C ∷ [])) (sym cd)
    ∙ sym (skip (too_long_at p input limit f) (truncated_in p input f A ∷ truncated_in p input f B ∷ truncated_in p input f C ∷ bad_sync_in p input f A ∷ bad_sync_in p input f B ∷ bad_sync_in p input f C ∷ []) (too_long-none p input limit f less))

-- no cause: all packets are good
pub all_good : (a b c : List ℕ) (pa pb pc : Part) (sa sb sc : ℕ) → Says a pa → Says b pb → Says c pc →
    option_or (option_or (option_or (option_or (option_or (cut_fault (seat_of A) pa) (cut_fault (seat_of B) pb)) (cut_fault (seat_of C) pc)) (sync_fault (seat_of A) sa pa)) (sync_fault (seat_of B) sb pb)) (sync_fault (seat_of C) sc pc) ≡ None →
    IsGood a × IsGood b × IsGood c
all_good a b c Good Good Good sa sb sc ga gb gc e = (ga, gb, gc)
all_good a b c Good Good (NoSync k) sa sb sc ga gb gc e = absurd (cc)
all_good a b c Good Good (Cut k) sa sb sc ga gb gc e = absurd (cc)
all_good a b c Good (NoSync k) Good sa sb sc ga gb gc e = absurd (cc)
all_good a b c Good (NoSync k) (NoSync l) sa sb sc ga gb gc e = absurd (cc)
all_good a b c Good (NoSync k) (Cut l) sa sb sc ga gb gc e = absurd (cc)
all_good a b c Good (Cut k) pc sa sb sc ga gb gc e = absurd (cc)
all_good a b c (NoSync k) Good Good sa sb sc ga gb gc e = absurd (cc)
all_good a b c (NoSync k) Good (NoSync l) sa sb sc ga gb gc e = absurd (cc)
all_good a b c (NoSync k) Good (Cut l) sa sb sc ga gb gc e = absurd (cc)
all_good a b c (NoSync k) (NoSync l) Good sa sb sc ga gb gc e = absurd (cc)
all_good a b c (NoSync k) (NoSync l) (NoSync m) sa sb sc ga gb gc e = absurd (cc)
all_good a b c (NoSync k) (NoSync l) (Cut m) sa sb sc ga gb gc e = absurd (cc)
all_good a b c (NoSync k) (Cut l) pc sa sb sc ga gb gc e = absurd (cc)
all_good a b c (Cut k) pb pc sa sb sc ga gb gc e = absurd (cc)

pub all_layers : (i : Inputs) → IsGood (take i.a.count i.a.bytes.items) → IsGood (take i.b.count i.b.bytes.items) → IsGood (take i.c.count i.c.bytes.items) → (x : Layer) →
    IsGood (take (input_of i x).count (input_of i x).bytes.items)
all_layers i a b c A = a
all_layers i a b c B = b
all_layers i a b c C = c

-- ---- frames behind the inputs

-- the frame at the limit is there
pub refusal-too_long : (p : Schedule) (input : Layer → List ℕ) (limit : ℕ) → is_there p input limit ≡ true → refusal p input limit limit ≡ Some TooLong
unfolding refusal
refusal-too_long p input limit there = rw (at_limit (limit == limit) (is_there p input limit) (eq-eqb limit limit refl) there) refl

none_of : {X : Type 0} (a b c d e f g : Option X) → a ≡ None → b ≡ None → c ≡ None → d ≡ None → e ≡ None → f ≡ None → g ≡ None → first_some (a ∷ b ∷ c ∷ d ∷ e ∷ f ∷ g ∷ []) ≡ None
none_of a b c d e f g ha hb hc hd he hf hg = rw (ha, hb, hc, hd, he, hf, hg) refl

-- a frame that is behind all inputs is refused for nothing but the limit
pub refusal-past : (p : Schedule) (input : Layer → List ℕ) (limit f : ℕ) → too_long_at p input limit f ≡ None → ((x : Layer) → length (input x) ≤ 188 * placed_before p x f) →
    refusal p input limit f ≡ None
unfolding refusal
refusal-past p input limit f soon past =
    none_of (too_long_at p input limit f) (truncated_in p input f A) (truncated_in p input f B) (truncated_in p input f C) (bad_sync_in p input f A) (bad_sync_in p input f B) (bad_sync_in p input f C)
    soon (truncated-ended p input f A (past A)) (truncated-ended p input f B (past B)) (truncated-ended p input f C (past C)) (sync A) (sync B) (sync C)
  where
    sync : (x : Layer) → bad_sync_in p input f x ≡ None
    sync x = bad_sync-none p input f x (λ k from below there. absurd (let all = past x in omega (arith, all, from, there)))

pub too_long-past : (p : Schedule) (input : Layer → List ℕ) (limit f : ℕ) → is_there p input f ≡ false → too_long_at p input limit f ≡ None
too_long-past p input limit f gone = not_there (f == limit) (is_there p input f) gone

-- ---- good inputs

only_first : {X : Type 0} (a b c d e f g : Option X) → b ≡ None → c ≡ None → d ≡ None → e ≡ None → f ≡ None → g ≡ None → first_some (a ∷ b ∷ c ∷ d ∷ e ∷ f ∷ g ∷ []) ≡ a
only_first None b c d e f g hb hc hd he hf hg = rw (hb, hc, hd, he, hf, hg) refl
only_first (Some x) b c d e f g hb hc hd he hf hg = refl

limit_fault : (same there : Bool) (fault : RemuxFault) → (if same && there then Some TooLong else None) ≡ Some fault → fault ≡ TooLong
limit_fault true true fault e = cc
limit_fault true false fault e = absurd (cc)
limit_fault false there fault e = absurd (cc)

-- whole packets with their sync bytes are refused for the limit alone
pub refusal-good : (p : Schedule) (input : Layer → List ℕ) (limit f : ℕ) (fault : RemuxFault) → ((x : Layer) → IsGood (input x)) → refusal p input limit f ≡ Some fault → fault ≡ TooLong
unfolding refusal
refusal-good p input limit f fault good is =
    limit_fault (f == limit) (is_there p input f) fault
    (sym (only_first (too_long_at p input limit f) (truncated_in p input f A) (truncated_in p input f B) (truncated_in p input f C) (bad_sync_in p input f A) (bad_sync_in p input f B) (bad_sync_in p input f C)
    (whole A) (whole B) (whole C) (sync A) (sync B) (sync C)) ∙ is)
  where
    whole : (x : Layer) → truncated_in p input f x ≡ None
    whole x = truncated-whole p input f x (good x).whole

    sync : (x : Layer) → bad_sync_in p input f x ≡ None
    sync x = bad_sync-none p input f x (λ i from below there. (good x).sync i (omega (arith, there)))
