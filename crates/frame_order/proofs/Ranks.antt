-- Packet k of the list by clocks has k packets before it, so the slots follow one from another.
use Rattle.std.proofs.Common.{◌≡◌, ℕ, zero, suc, ◌+◌, ◌-◌, ◌≤◌, ◌<◌, min, max, cond, List, length, get_or, map, arith, ap, sym, ◌∙◌, inl, inr, subst}
use Rattle.std.specs.Prelude.{Contains, sum_by, nat_lt, sum}
use Rattle.std.specs.List.Sorted.{IsPermutation}
use Rattle.std.proofs.lemmas.List.{get_or-map, length-map, get_or_default}
use Rattle.std.proofs.lemmas.Simd.{map-map}
use Rattle.std.proofs.lemmas.List.Sums.{sum-map}
use Rattle.std.proofs.lemmas.List.Kept.{AllPairs-from_increasing}
use Rattle.std.proofs.lemmas.List.Sorted.{IsPermutation-sym, Contains-permutation, length_permutation, sum_by-IsPermutation}
use Rattle.isdbt_base.specs.declared.kinds.Mode.{Mode}
use Rattle.isdbt_base.specs.declared.kinds.Guard.{Guard}
use Rattle.isdbt_base.specs.declared.kinds.Layer.TheVariants.{A}
use Rattle.std.proofs.lemmas.Bool.Decides.{leb_tells}
use Rattle.isdbt_base.specs.Parameters.{Parameters}
use Rattle.isdbt_base.specs.Numbers.{total_packets, slots_per_frame}
use Rattle.frame_order.specs.declared.mark.Mark.{Mark}
use Rattle.frame_order.specs.declared.clocks.Timed.{Timed}
use Rattle.frame_order.specs.Slots.{earlier, slot_after}
use Rattle.frame_order.specs.Order.{all_marks, clock_of, slot_of}
use Rattle.frame_order.specs.Places.{IsInFrame}
use Rattle.frame_order.specs.ClockOrder.{timed_of, IsClockOrder}
use Rattle.frame_order.proofs.PlaceLaws.{all_marks-in, all_marks-has, length-all_marks}
use Rattle.frame_order.proofs.SlotLaws.{earlier-at, slot-next, slot-first, slots-rise}

-- ---- numbers over another list of the same elements

sum_by-map : {X Y : Type 0} (f : Y → ℕ) (g : X → Y) (xs : List X) → sum_by f (map g xs) ≡ sum_by (λ x. f (g x)) xs
sum_by-map f g xs = sym (sum-map f (map g xs)) ∙ ap sum (map-map f g xs) ∙ sum-map (λ x. f (g x)) xs

-- as many packets are earlier in one list as in the other
earlier-sorted : (mode : Mode) (guard : Guard) (s : Parameters) (items : List Timed) → IsPermutation (map (timed_of mode guard s) (all_marks mode s)) items → (m : Mark) →
    earlier (clock_of mode guard s) (all_marks mode s) m ≡ earlier (λ (t : Timed). t.clock) items (timed_of mode guard s m)
unfolding earlier
earlier-sorted mode guard s items permutation m =
    let f = λ (t : Timed). cond (nat_lt t.clock (clock_of mode guard s m)) 1 0 in
    sym (sum_by-map f (timed_of mode guard s) (all_marks mode s)) ∙ sym (sum_by-IsPermutation f _ items permutation)

-- ---- the elements of the list

pub length-items : (mode : Mode) (guard : Guard) (s : Parameters) (items : List Timed) → IsClockOrder mode guard s items → length items ≡ total_packets mode s
length-items mode guard s items o =
    length_permutation _ items o.permutation ∙ length-map (all_marks mode s) (timed_of mode guard s) ∙ length-all_marks mode s

no_mark : Mark
no_mark = record { layer = A; index = 0 }

-- each element is a packet of the frame with its clock and place
pub item-is : (mode : Mode) (guard : Guard) (s : Parameters) (items : List Timed) → IsClockOrder mode guard s items → (k : ℕ) (d : Timed) → k < length items →
    (get_or items k d ≡ timed_of mode guard s (get_or items k d).mark) × IsInFrame mode s (get_or items k d).mark
item-is mode guard s items o k d h =
    let t : Timed = get_or items k d in
    let c : Contains (map (timed_of mode guard s) (all_marks mode s)) t = Contains-permutation items _ t (IsPermutation-sym _ items o.permutation) (k, h, get_or_default items k t d h) in
    let l : length (map (timed_of mode guard s) (all_marks mode s)) ≡ length (all_marks mode s) = length-map (all_marks mode s) (timed_of mode guard s) in
    let m : Mark = get_or (all_marks mode s) c.0 no_mark in
    let is : t ≡ timed_of mode guard s m = sym c.2 ∙ get_or-map (timed_of mode guard s) (all_marks mode s) c.0 no_mark t (omega (arith, c.1)) in
    let same : t.mark ≡ m = ap (λ (u : Timed). u.mark) is in
    (is ∙ ap (timed_of mode guard s) (sym same), subst (λ n. IsInFrame mode s n) (sym same) (all_marks-in mode s c.0 no_mark (omega (arith, c.1))))

-- each packet of the frame is an element
pub item-of : (mode : Mode) (guard : Guard) (s : Parameters) (items : List Timed) → IsClockOrder mode guard s items → (m : Mark) → IsInFrame mode s m → Contains items (timed_of mode guard s m)
item-of mode guard s items o m h =
    let c = all_marks-has mode s m h in
    let l : length (map (timed_of mode guard s) (all_marks mode s)) ≡ length (all_marks mode s) = length-map (all_marks mode s) (timed_of mode guard s) in
    Contains-permutation _ items (timed_of mode guard s m) o.permutation
    (c.0, omega (arith, c.1), get_or-map (timed_of mode guard s) (all_marks mode s) c.0 m (timed_of mode guard s m) c.1 ∙ ap (timed_of mode guard s) c.2)

-- clocks rise along the list
item-rises : (mode : Mode) (guard : Guard) (s : Parameters) (items : List Timed) → IsClockOrder mode guard s items → (i j : ℕ) (d : Timed) → i < j → j < length items → (get_or items i d).clock < (get_or items j d).clock
item-rises mode guard s items o i j d lt h =
    let l : length (map (λ (t : Timed). t.clock) items) ≡ length items = length-map items (λ (t : Timed). t.clock) in
    let r = AllPairs-from_increasing (map (λ (t : Timed). t.clock) items) o.rising i j 0 lt (omega arith) in
    let p = get_or-map (λ (t : Timed). t.clock) items i d 0 (omega arith) in
    let q = get_or-map (λ (t : Timed). t.clock) items j d 0 (omega arith) in
    rw (p, q) at r

-- element k has k packets before it
pub item-earlier : (mode : Mode) (guard : Guard) (s : Parameters) (items : List Timed) → IsClockOrder mode guard s items → (k : ℕ) (d : Timed) → k < length items →
    earlier (clock_of mode guard s) (all_marks mode s) (get_or items k d).mark ≡ k
item-earlier mode guard s items o k d h =
    let t : Timed = get_or items k d in
    let is = item-is mode guard s items o k d h in
    let here : (i : ℕ) → i < length items → get_or items i t ≡ get_or items i d = λ i lt. get_or_default items i t d lt in
    earlier-sorted mode guard s items o.permutation t.mark
    ∙ ap (earlier (λ (u : Timed). u.clock) items) (sym is.0)
    ∙ earlier-at (λ (u : Timed). u.clock) items t k (omega arith)
    (λ i lt. subst (λ (u : Timed). u.clock < t.clock) (sym (here i (omega arith))) (item-rises mode guard s items o i k d lt h))
    (λ i le lt. subst (λ (u : Timed). t.clock ≤ u.clock) (sym (here i lt)) (not-less i le lt))
  where
    not-less : (i : ℕ) → k ≤ i → i < length items → (get_or items k d).clock ≤ (get_or items i d).clock
    not-less i le lt = elim (leb_tells (suc k) i) [ inl less ↦ let r = item-rises mode guard s items o k i d less.1 lt in omega arith | inr same ↦ let e : k ≡ i = omega (arith, same.1) in subst (λ n. (get_or items k d).clock ≤ (get_or items n d).clock) e (omega arith) ]

-- ---- the slots

-- the first slot after the element before element k
abbrev pub IsNext : Mode → Guard → Parameters → List Timed → ℕ → ℕ → Type 0
IsNext mode guard s items zero next = next ≡ 0
IsNext mode guard s items (suc k) next = (d : Timed) → next ≡ slot_of mode guard s (get_or items k d).mark + 1

pub item-slot : (mode : Mode) (guard : Guard) (s : Parameters) (items : List Timed) → IsClockOrder mode guard s items → (k : ℕ) (d : Timed) → k < length items → (next : ℕ) → IsNext mode guard s items k next →
    slot_of mode guard s (get_or items k d).mark ≡ min (max next (slot_after (clock_of mode guard s (get_or items k d).mark))) (slots_per_frame mode guard - total_packets mode s + k)
unfolding slot_of
item-slot mode guard s items o zero d h next n =
    let is = item-is mode guard s items o 0 d h in
    let first = slot-first (slots_per_frame mode guard) (clock_of mode guard s) (all_marks mode s) (get_or items 0 d).mark (all_marks-has mode s (get_or items 0 d).mark is.1) (item-earlier mode guard s items o 0 d h) in
    let l = length-all_marks mode s in
    at_zero (slots_per_frame mode guard) (length (all_marks mode s)) (total_packets mode s) next _ _ l n first
  where
    at_zero : (slots len total next after slot : ℕ) → len ≡ total → next ≡ 0 → slot ≡ min after (slots - len) → slot ≡ min (max next after) (slots - total + 0)
    at_zero slots len total next after slot e n f = omega arith
item-slot mode guard s items o (suc k) d h next n =
    let is = item-is mode guard s items o (suc k) d h in
    let was = item-is mode guard s items o k d (omega arith) in
    let e = item-earlier mode guard s items o (suc k) d h in
    let f = item-earlier mode guard s items o k d (omega arith) in
    let step = slot-next (slots_per_frame mode guard) (clock_of mode guard s) (all_marks mode s) (get_or items k d).mark (get_or items (suc k) d).mark (all_marks-has mode s _ was.1) (all_marks-has mode s _ is.1) (one-more _ _ k e f) in
    let l = length-all_marks mode s in
    at_suc (slots_per_frame mode guard) (length (all_marks mode s)) (total_packets mode s) next _ _ _ _ k l (n d) e step
  where
    one-more : (a b k : ℕ) → a ≡ suc k → b ≡ k → a ≡ b + 1
    one-more a b k e f = omega arith

    at_suc : (slots len total next after before slot early k : ℕ) → len ≡ total → next ≡ before + 1 → early ≡ suc k → slot ≡ min (max (before + 1) after) (slots - len + early) → slot ≡ min (max next after) (slots - total + suc k)
    at_suc slots len total next after before slot early k l n e f = omega arith

-- slots rise along the list
pub item-slot-rises : (mode : Mode) (guard : Guard) (s : Parameters) (items : List Timed) → IsClockOrder mode guard s items → (i j : ℕ) (d : Timed) → i < j → j < length items → slot_of mode guard s (get_or items i d).mark < slot_of mode guard s (get_or items j d).mark
unfolding slot_of
item-slot-rises mode guard s items o i j d lt h =
    let is = item-is mode guard s items o i d (omega arith) in
    slots-rise (slots_per_frame mode guard) (clock_of mode guard s) (all_marks mode s) (get_or items i d).mark (get_or items j d).mark (all_marks-has mode s _ is.1)
    (less _ _ i j lt (item-earlier mode guard s items o i d (omega arith)) (item-earlier mode guard s items o j d h))
  where
    less : (a b i j : ℕ) → i < j → a ≡ i → b ≡ j → a < b
    less a b i j lt e f = omega arith
