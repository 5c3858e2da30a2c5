-- How the slots are filled, packet by packet in the order of the clocks.
use Rattle.std.proofs.Common.{◌≡◌, ◌≢◌, ℕ, zero, suc, ◌+◌, ◌-◌, ◌≤◌, ◌<◌, min, max, Option, Some, None, List, [], ◌++◌, length, take, get_or, map, replicate, get_or-set_same, get_or-set_other, refl, arith, rules, ap, sym, ◌∙◌, inl, inr, subst}
use Rattle.std.proofs.Math.ListN.{set, length-set}
use Rattle.std.proofs.lemmas.List.{get_or-map, length-map, get_or_default, get_or-replicate, length-replicate, same_lists}
use Rattle.std.proofs.lemmas.List.FromFn.{length-map-range_with_len, get_or-map-range_with_len}
use Rattle.std.proofs.lemmas.Bool.Decides.{leb_tells}
use Rattle.std.specs.Prelude.{nat_le, true, false, ◌⊎◌}
use Rattle.std.proofs.lemmas.Option.{none-some}
use Rattle.std.specs.Ordering.{ord_max, nat_cmp}
use Rattle.isdbt_base.specs.declared.kinds.Mode.{Mode}
use Rattle.isdbt_base.specs.declared.kinds.Guard.{Guard}
use Rattle.isdbt_base.specs.declared.kinds.Layer.TheVariants.{A}
use Rattle.isdbt_base.specs.Parameters.{Parameters, IsAccepted}
use Rattle.isdbt_base.specs.Numbers.{total_packets, slots_per_frame}
use Rattle.frame_order.specs.declared.mark.Mark.{Mark}
use Rattle.frame_order.specs.declared.clocks.Timed.{Timed}
use Rattle.frame_order.specs.Slots.{slot_after}
use Rattle.frame_order.specs.Order.{all_marks, slot_of, mark_at, clock_of}
use Rattle.frame_order.specs.Places.{IsInFrame, IsFilled, place_of}
use Rattle.frame_order.specs.ClockOrder.{timed_of, IsClockOrder}
use Rattle.frame_order.proofs.PlaceLaws.{all_marks-in, all_marks-place, length-all_marks, at-place, place_of-below}
use Rattle.frame_order.proofs.Ranks.{IsNext, item-is, item-of, item-slot, item-slot-rises}
use Rattle.frame_order.proofs.OrderLaws.{mark_at-slot, mark_at-some, slot_of-below}

-- the first k packets stand in their slots
pub record IsPlaced (mode : Mode) (guard : Guard) (s : Parameters) (items : List Timed) (k next : ℕ) (by_slot : List (Option Mark)) (by_place : List ℕ) : Type 0 where
  pub accepted : IsAccepted s
  pub order : IsClockOrder mode guard s items
  pub following : IsNext mode guard s items k next
  pub slot_count : length by_slot ≡ slots_per_frame mode guard
  pub place_count : length by_place ≡ total_packets mode s
  pub marks : (j : ℕ) (d : Timed) (e : Option Mark) → j < k → get_or by_slot (slot_of mode guard s (get_or items j d).mark) e ≡ Some (get_or items j d).mark
  pub none : (i : ℕ) (e : Option Mark) → i < slots_per_frame mode guard → ((j : ℕ) (d : Timed) → j < k → slot_of mode guard s (get_or items j d).mark ≢ i) → get_or by_slot i e ≡ None
  pub places : (j : ℕ) (d : Timed) → j < k → get_or by_place (get_or items j d).place 0 ≡ slot_of mode guard s (get_or items j d).mark

pub placed-none : (mode : Mode) (guard : Guard) (s : Parameters) (items : List Timed) → IsAccepted s → IsClockOrder mode guard s items → IsPlaced mode guard s items 0 0 (replicate (slots_per_frame mode guard) None) (replicate (total_packets mode s) 0)
placed-none mode guard s items h o = record {
  accepted = h;
  order = o;
  following = refl;
  slot_count = length-replicate (slots_per_frame mode guard) None;
  place_count = length-replicate (total_packets mode s) 0;
  marks = λ j d e lt. absurd (omega arith);
  none = λ i e lt free. get_or-replicate (slots_per_frame mode guard) i None e lt;
  places = λ j d lt. absurd (omega arith);
}

-- what a comparison tells
abbrev Tells : ℕ → ℕ → Type 0
Tells a b = ((nat_le a b ≡ true) × (a ≤ b)) ⊎ ((nat_le a b ≡ false) × (b < a))

-- packets with one place are one packet
place-same : (mode : Mode) (s : Parameters) (m n : Mark) → IsInFrame mode s m → IsInFrame mode s n → place_of mode s m ≡ place_of mode s n → m ≡ n
place-same mode s m n in_m in_n e = sym (at-place mode s m m in_m) ∙ ap (λ i. get_or (all_marks mode s) i m) e ∙ at-place mode s n m in_n

-- after a write at i: the written element there, and elsewhere what was there
written-same : {X : Type 0} (xs : List X) (i j : ℕ) (x d : X) → j ≡ i → i < length xs → get_or (set xs i x) j d ≡ x
written-same xs i j x d e h = rw e (get_or-set_same xs i x d h)

written-other : {X : Type 0} (xs : List X) (i j : ℕ) (x y d : X) → j ≢ i → get_or xs j d ≡ y → get_or (set xs i x) j d ≡ y
written-other xs i j x y d ne e = get_or-set_other xs i j x d ne ∙ e

apart : (a b c : ℕ) → a < b → c ≡ b → a ≢ c
apart a b c lt e f = omega arith

-- one more packet: here t is packet k, in the slot that follows
placed-one : (mode : Mode) (guard : Guard) (s : Parameters) (items : List Timed) (k next : ℕ) (by_slot : List (Option Mark)) (by_place : List ℕ) (t : Timed) (slot : ℕ) →
    IsPlaced mode guard s items k next by_slot by_place → k < length items → ((d : Timed) → get_or items k d ≡ t) → t ≡ timed_of mode guard s t.mark → IsInFrame mode s t.mark → slot ≡ slot_of mode guard s t.mark →
    IsPlaced mode guard s items (suc k) (slot + 1) (set by_slot slot (Some t.mark)) (set by_place t.place slot)
placed-one mode guard s items k next by_slot by_place t slot p h at is in_t e = record {
  accepted = p.accepted;
  order = p.order;
  following = λ d. rw (at d) (ap (λ n. n + 1) e);
  slot_count = length-set by_slot slot (Some t.mark) ∙ p.slot_count;
  place_count = length-set by_place t.place slot ∙ p.place_count;
  marks = λ j d u lt. marks-at j d u lt (leb_tells (suc j) k);
  none = λ i u lt free. written-other by_slot slot i (Some t.mark) None u (free-here i (free k t (omega arith))) (p.none i u lt (λ j d less. free j d (omega arith)));
  places = λ j d lt. places-at j d lt (leb_tells (suc j) k);
}
  where
    slot-in : slot < length by_slot
    slot-in = let b = slot_of-below mode guard s p.accepted t.mark in_t in let l = p.slot_count in omega arith

    place-in : t.place < length by_place
    place-in = let b = place_of-below mode s t.mark in_t in let l = p.place_count in let f : t.place ≡ place_of mode s t.mark = ap (λ (u : Timed). u.place) is in omega arith

    here : (j : ℕ) (d : Timed) → j < suc k → k < suc j → get_or items j d ≡ t
    here j d lt ge = let f : j ≡ k = omega arith in ap (λ i. get_or items i d) f ∙ at d

    before : (j : ℕ) (d : Timed) → j < k → slot_of mode guard s (get_or items j d).mark < slot_of mode guard s t.mark
    before j d lt = subst (λ (u : Timed). slot_of mode guard s (get_or items j d).mark < slot_of mode guard s u.mark) (at d) (item-slot-rises mode guard s items p.order j k d lt h)

    free-here : (i : ℕ) → slot_of mode guard s (get_or items k t).mark ≢ i → i ≢ slot
    free-here i free f = free (ap (λ (u : Timed). slot_of mode guard s u.mark) (at t) ∙ sym e ∙ sym f)

    marks-at : (j : ℕ) (d : Timed) (u : Option Mark) → j < suc k → Tells (suc j) k → get_or (set by_slot slot (Some t.mark)) (slot_of mode guard s (get_or items j d).mark) u ≡ Some (get_or items j d).mark
    marks-at j d u lt (inl less) = written-other by_slot slot _ (Some t.mark) _ u (apart _ _ _ (before j d less.1) e) (p.marks j d u less.1)
    marks-at j d u lt (inr same) = let f = here j d lt (omega (arith, same.1)) in rw f (written-same by_slot slot _ (Some t.mark) u (sym e) slot-in)

    other-place : (j : ℕ) (d : Timed) → j < k → (get_or items j d).place ≢ t.place
    other-place j d lt f =
        let was = item-is mode guard s items p.order j d (omega arith) in
        let same = place-same mode s (get_or items j d).mark t.mark was.1 in_t (sym (ap (λ (u : Timed). u.place) was.0) ∙ f ∙ ap (λ (u : Timed). u.place) is) in
        apart _ _ _ (before j d lt) refl (ap (slot_of mode guard s) same)

    places-at : (j : ℕ) (d : Timed) → j < suc k → Tells (suc j) k → get_or (set by_place t.place slot) (get_or items j d).place 0 ≡ slot_of mode guard s (get_or items j d).mark
    places-at j d lt (inl less) = written-other by_place t.place _ slot _ 0 (other-place j d less.1) (p.places j d less.1)
    places-at j d lt (inr same) = let f = here j d lt (omega (arith, same.1)) in rw f (written-same by_place t.place t.place slot 0 refl place-in ∙ e)

pub placed-more : (mode : Mode) (guard : Guard) (s : Parameters) (items : List Timed) (k next : ℕ) (by_slot : List (Option Mark)) (by_place : List ℕ) (t : Timed) (slot : ℕ) →
    IsPlaced mode guard s items k next by_slot by_place → k < length items → t ≡ get_or items k t → slot ≡ min (max next (slot_after t.clock)) (slots_per_frame mode guard - total_packets mode s + k) →
    IsPlaced mode guard s items (k + 1) (slot + 1) (set by_slot slot (Some t.mark)) (set by_place t.place slot)
placed-more mode guard s items k next by_slot by_place t slot p h at e =
    let is0 = item-is mode guard s items p.order k t h in
    let is : t ≡ timed_of mode guard s t.mark = subst (λ (u : Timed). u ≡ timed_of mode guard s u.mark) (sym at) is0.0 in
    let in_t : IsInFrame mode s t.mark = subst (λ (u : Timed). IsInFrame mode s u.mark) (sym at) is0.1 in
    let clock : t.clock ≡ clock_of mode guard s t.mark = ap (λ (u : Timed). u.clock) is in
    let slot_is = subst (λ (u : Timed). slot_of mode guard s u.mark ≡ min (max next (slot_after (clock_of mode guard s u.mark))) (slots_per_frame mode guard - total_packets mode s + k)) (sym at) (item-slot mode guard s items p.order k t h next p.following) in
    let here : slot ≡ slot_of mode guard s t.mark = e ∙ ap (λ c. min (max next (slot_after c)) (slots_per_frame mode guard - total_packets mode s + k)) clock ∙ sym slot_is in
    let one : suc k ≡ k + 1 = omega arith in
    subst (λ n. IsPlaced mode guard s items n (slot + 1) (set by_slot slot (Some t.mark)) (set by_place t.place slot)) one
    (placed-one mode guard s items k next by_slot by_place t slot p h (λ d. get_or_default items k d t h ∙ sym at) is in_t here)

pub placed-all : (mode : Mode) (guard : Guard) (s : Parameters) (items : List Timed) (k next : ℕ) (by_slot : List (Option Mark)) (by_place : List ℕ) →
    IsPlaced mode guard s items k next by_slot by_place → k ≡ length items → IsFilled mode guard s by_slot by_place
placed-all mode guard s items k next by_slot by_place p e = record {
  accepted = p.accepted;
  marks = same_lists by_slot _ (p.slot_count ∙ sym (length-map-range_with_len (mark_at mode guard s) 0 (slots_per_frame mode guard)))
      (λ i d lt. by_slot-at i d lt (mark_at mode guard s i) refl ∙ sym (get_or-map-range_with_len (mark_at mode guard s) 0 (slots_per_frame mode guard) i i d (omega (arith, p.slot_count)) (omega arith)));
  slots = same_lists by_place _ (p.place_count ∙ sym (length-map (all_marks mode s) (slot_of mode guard s) ∙ length-all_marks mode s))
      (λ i d lt. by_place-at i d lt);
}
  where
    no_mark : Mark
    no_mark = record { layer = A; index = 0 }

    -- the element that a packet is
    rank : (m : Mark) → IsInFrame mode s m → (j : ℕ) × (j < k) × ((d : Timed) → get_or items j d ≡ timed_of mode guard s m)
    rank m in_m = let c = item-of mode guard s items p.order m in_m in (c.0, omega (arith, c.1), λ d. get_or_default items c.0 d (timed_of mode guard s m) c.1 ∙ c.2)

    by_slot-at : (i : ℕ) (d : Option Mark) → i < length by_slot → (o : Option Mark) → mark_at mode guard s i ≡ o → get_or by_slot i d ≡ mark_at mode guard s i
    by_slot-at i d lt None none = p.none i d (omega (arith, p.slot_count)) (λ j u less f. free j u less f) ∙ sym none
      where
        free : (j : ℕ) (u : Timed) → j < k → slot_of mode guard s (get_or items j u).mark ≢ i
        free j u less f =
            let is = item-is mode guard s items p.order j u (omega arith) in
            let some = mark_at-slot mode guard s p.accepted (get_or items j u).mark is.1 in
            none-some _ (sym none ∙ ap (mark_at mode guard s) (sym f) ∙ some)
    by_slot-at i d lt (Some m) some =
        let found = mark_at-some mode guard s i m some in
        let r = rank m found.0 in
        let t : Timed = timed_of mode guard s m in
        let e : get_or items r.0 t ≡ t = r.2 t in
        let at = p.marks r.0 t d r.1 in
        ap (λ n. get_or by_slot n d) (sym found.1 ∙ ap (λ (u : Timed). slot_of mode guard s u.mark) (sym e)) ∙ at ∙ ap (λ (u : Timed). Some u.mark) e ∙ sym some

    by_place-at : (i : ℕ) (d : ℕ) → i < length by_place → get_or by_place i d ≡ get_or (map (slot_of mode guard s) (all_marks mode s)) i d
    by_place-at i d lt =
        let l = length-all_marks mode s in
        let m : Mark = get_or (all_marks mode s) i no_mark in
        let in_m : IsInFrame mode s m = all_marks-in mode s i no_mark (omega (arith, p.place_count)) in
        let r = rank m in_m in
        let t : Timed = timed_of mode guard s m in
        let e : get_or items r.0 t ≡ t = r.2 t in
        let place : place_of mode s m ≡ i = all_marks-place mode s i no_mark (omega (arith, p.place_count)) in
        get_or_default by_place i d 0 lt
        ∙ ap (λ n. get_or by_place n 0) (sym (ap (λ (u : Timed). u.place) e ∙ place))
        ∙ p.places r.0 t r.1
        ∙ ap (λ (u : Timed). slot_of mode guard s u.mark) e
        ∙ sym (get_or-map (slot_of mode guard s) (all_marks mode s) i no_mark d (omega (arith, p.place_count)))

-- the slot of a packet stands at its place
pub filled-slot : (mode : Mode) (guard : Guard) (s : Parameters) (by_slot : List (Option Mark)) (by_place : List ℕ) → IsFilled mode guard s by_slot by_place → (m : Mark) → IsInFrame mode s m →
    (place_of mode s m < length by_place) × ((d : ℕ) → get_or by_place (place_of mode s m) d ≡ slot_of mode guard s m)
filled-slot mode guard s by_slot by_place f m in_m =
    let l : length by_place ≡ total_packets mode s = ap length f.slots ∙ length-map (all_marks mode s) (slot_of mode guard s) ∙ length-all_marks mode s in
    let n = length-all_marks mode s in
    let b = place_of-below mode s m in_m in
    (omega arith, λ d. ap (λ xs. get_or xs (place_of mode s m) d) f.slots ∙ get_or-map (slot_of mode guard s) (all_marks mode s) (place_of mode s m) m d (omega arith) ∙ ap (slot_of mode guard s) (at-place mode s m m in_m))

-- the slots are fewer than 5121, and the packets fewer
pub slots-most : (mode : Mode) (guard : Guard) → slots_per_frame mode guard ≤ 5120
slots-most mode guard = search rules

-- the greater of two numbers, as the code takes it
pub max-is : (a b : ℕ) → ord_max nat_cmp a b ≡ max a b
max-is a b = search rules

abbrev nothing : {X : Type 0} → X → List X
nothing x = []

none-taken : {X : Type 0} (x : X) (n : ℕ) → take n (nothing x) ≡ nothing x
none-taken x zero = refl
none-taken x (suc n) = refl

-- a vector that is filled up from nothing
pub filled_up : {X : Type 0} (xs new : List X) (len n m : ℕ) (x : X) → xs ≡ [] → len ≡ 0 → n ≡ m → new ≡ take n xs ++ replicate (n - len) x → replicate m x ≡ new
filled_up xs new len n m x e l f g = sym (g ∙ ap (λ ys. take n ys ++ replicate (n - len) x) e ∙ ap (λ ys. ys ++ replicate (n - len) x) (none-taken x n) ∙ ap (λ k. replicate k x) (omega arith))

-- the element at k is a packet, so its place is below the count of packets
pub item-place : (mode : Mode) (guard : Guard) (s : Parameters) (items : List Timed) → IsClockOrder mode guard s items → (k : ℕ) (d : Timed) → k < length items → (get_or items k d).place < total_packets mode s
item-place mode guard s items o k d h =
    let is = item-is mode guard s items o k d h in
    let e : (get_or items k d).place ≡ place_of mode s (get_or items k d).mark = ap (λ (u : Timed). u.place) is.0 in
    let b = place_of-below mode s (get_or items k d).mark is.1 in
    omega arith

-- the next slot is below the count of slots
pub slot-room : (slot ready free rank slots total : ℕ) → slot ≡ min ready (free + rank) → free ≡ slots - total → rank < total → total < slots → slot < slots
slot-room slot ready free rank slots total e f lt few = omega arith
