-- Slots and packets of a frame are inverse to each other.
use Rattle.std.proofs.Common.{◌≡◌, ◌≢◌, ℕ, zero, suc, ◌+◌, ◌-◌, ◌<◌, min, cond, Bool, true, false, Option, Some, None, List, [], ◌∷◌, length, get_or, refl, arith, ap, sym, ◌∙◌, inl, inr, subst}
use Rattle.std.specs.Prelude.{Contains, find, ◌==◌}
use Rattle.std.proofs.lemmas.Bool.{eq-eqb, eqb-true}
use Rattle.std.proofs.lemmas.Bool.Decides.{leb_tells}
use Rattle.isdbt_base.specs.declared.kinds.Mode.{Mode}
use Rattle.isdbt_base.specs.declared.kinds.Guard.{Guard}
use Rattle.isdbt_base.specs.declared.kinds.Layer.{Layer}
use Rattle.isdbt_base.specs.Parameters.{Parameters, IsAccepted}
use Rattle.isdbt_base.specs.Numbers.{total_packets, slots_per_frame}
use Rattle.isdbt_base.proofs.NumberLaws.{total-below_slots}
use Rattle.frame_order.specs.declared.mark.Mark.{Mark}
use Rattle.frame_order.specs.Slots.{slot_for}
use Rattle.frame_order.specs.Order.{all_marks, clock_of, slot_of, mark_at}
use Rattle.frame_order.specs.Places.{IsInFrame}
use Rattle.frame_order.proofs.ClockLaws.{clock_of-same, clock_of-rises, clock_of-positive}
use Rattle.frame_order.proofs.PlaceLaws.{all_marks-in, all_marks-has, length-all_marks}
use Rattle.frame_order.proofs.SlotLaws.{earlier-lt, earlier-below, slots-rise, slot-positive}

-- ---- the first element that passes

pub find-has : {X : Type 0} (p : X → Bool) (xs : List X) (x : X) → find p xs ≡ Some x → Contains xs x × (p x ≡ true)
find-has p [] x e = absurd (cc)
find-has {X} p (y ∷ ys) x e = go (p y) refl e (find-has p ys x)
  where
    go : (b : Bool) → p y ≡ b → cond b (Some y) (find p ys) ≡ Some x → (find p ys ≡ Some x → Contains ys x × (p x ≡ true)) → Contains (y ∷ ys) x × (p x ≡ true)
    go true passes e more = let same : y ≡ x = cc in ((0, omega arith, same), ap p (sym same) ∙ passes)
    go false fails e more = let rest = more e in ((suc rest.0.0, omega (arith, rest.0.1), rest.0.2), rest.1)

pub find-misses : {X : Type 0} (p : X → Bool) (xs : List X) (k : ℕ) (d : X) → find p xs ≡ None → k < length xs → p (get_or xs k d) ≡ false
find-misses p [] k d e h = absurd (omega arith)
find-misses {X} p (y ∷ ys) k d e h = go (p y) refl e k h (λ k e h. find-misses p ys k d e h)
  where
    go : (b : Bool) → p y ≡ b → cond b (Some y) (find p ys) ≡ None → (k : ℕ) → k < length (y ∷ ys) → ((k : ℕ) → find p ys ≡ None → k < length ys → p (get_or ys k d) ≡ false) → p (get_or (y ∷ ys) k d) ≡ false
    go true passes e k h more = absurd (cc)
    go false fails e zero h more = fails
    go false fails e (suc k) h more = more k e (omega arith)

-- ---- slots

pub slot_of-rises : (mode : Mode) (guard : Guard) (s : Parameters) (m n : Mark) → IsInFrame mode s m → clock_of mode guard s m < clock_of mode guard s n → slot_of mode guard s m < slot_of mode guard s n
unfolding slot_of
slot_of-rises mode guard s m n in_m lt =
    let c = all_marks-has mode s m in_m in
    slots-rise (slots_per_frame mode guard) (clock_of mode guard s) (all_marks mode s) m n c (earlier-lt (clock_of mode guard s) (all_marks mode s) m n c.0 c.1 c.2 lt)

-- each layer's slots rise
pub slot_of-layer : (mode : Mode) (guard : Guard) (s : Parameters) → IsAccepted s → (x : Layer) (i j : ℕ) → IsInFrame mode s (record { layer = x; index = i }) → i < j → slot_of mode guard s (record { layer = x; index = i }) < slot_of mode guard s (record { layer = x; index = j })
slot_of-layer mode guard s h x i j in_i lt = slot_of-rises mode guard s _ _ in_i (clock_of-rises mode guard s h x i j in_i lt)

-- slot 0 has no packet
pub slot_of-positive : (mode : Mode) (guard : Guard) (s : Parameters) → IsAccepted s → (m : Mark) → IsInFrame mode s m → 0 < slot_of mode guard s m
unfolding slot_of
slot_of-positive mode guard s h m in_m =
    let few = total-below_slots mode guard s h in
    let l = length-all_marks mode s in
    slot-positive (slots_per_frame mode guard) (clock_of mode guard s) (all_marks mode s) m (all_marks-has mode s m in_m) (clock_of-positive mode guard s m in_m) (omega arith)

-- a slot is below the count of slots
pub slot_of-below : (mode : Mode) (guard : Guard) (s : Parameters) → IsAccepted s → (m : Mark) → IsInFrame mode s m → slot_of mode guard s m < slots_per_frame mode guard
unfolding slot_of slot_for
slot_of-below mode guard s h m in_m =
    let few = total-below_slots mode guard s h in
    let l = length-all_marks mode s in
    let c = all_marks-has mode s m in_m in
    let e = earlier-below (clock_of mode guard s) (all_marks mode s) m c.0 c.1 c.2 in
    below _ (slots_per_frame mode guard) (length (all_marks mode s)) (total_packets mode s) _ l few e
  where
    below : (ready slots len total e : ℕ) → len ≡ total → total < slots → e < len → min ready (slots - len + e) < slots
    below ready slots len total e l few lt = omega arith

-- one slot, one packet
pub slot_of-same : (mode : Mode) (guard : Guard) (s : Parameters) → IsAccepted s → (m n : Mark) → IsInFrame mode s m → IsInFrame mode s n → slot_of mode guard s m ≡ slot_of mode guard s n → m ≡ n
slot_of-same mode guard s h m n in_m in_n e =
    elim (leb_tells (suc (clock_of mode guard s m)) (clock_of mode guard s n)) [
      | inl less ↦ absurd (apart _ _ e (slot_of-rises mode guard s m n in_m less.1))
      | inr not_less ↦ elim (leb_tells (suc (clock_of mode guard s n)) (clock_of mode guard s m)) [
        | inl more ↦ absurd (apart _ _ (sym e) (slot_of-rises mode guard s n m in_n more.1))
        | inr not_more ↦ clock_of-same mode guard s h m n in_m in_n (equal _ _ not_less.1 not_more.1)
      ]
    ]
  where
    apart : (a b : ℕ) → a ≡ b → a < b → ⊥
    apart a b e lt = omega arith

    equal : (a b : ℕ) → b < suc a → a < suc b → a ≡ b
    equal a b p q = omega arith

-- ---- packets of slots

-- what a slot has is a packet of the frame with that slot
pub mark_at-some : (mode : Mode) (guard : Guard) (s : Parameters) (i : ℕ) (m : Mark) → mark_at mode guard s i ≡ Some m → IsInFrame mode s m × (slot_of mode guard s m ≡ i)
unfolding mark_at
mark_at-some mode guard s i m e =
    let found = find-has (λ m. slot_of mode guard s m == i) (all_marks mode s) m e in
    (subst (λ n. IsInFrame mode s n) found.0.2 (all_marks-in mode s found.0.0 m found.0.1), eqb-true (slot_of mode guard s m) i found.1)

-- the slot of a packet has it
pub mark_at-slot : (mode : Mode) (guard : Guard) (s : Parameters) → IsAccepted s → (m : Mark) → IsInFrame mode s m → mark_at mode guard s (slot_of mode guard s m) ≡ Some m
unfolding mark_at
mark_at-slot mode guard s h m in_m = go (mark_at mode guard s (slot_of mode guard s m)) refl
  where
    go : (o : Option Mark) → mark_at mode guard s (slot_of mode guard s m) ≡ o → mark_at mode guard s (slot_of mode guard s m) ≡ Some m
    go None e =
        let c = all_marks-has mode s m in_m in
        let miss = find-misses (λ n. slot_of mode guard s n == slot_of mode guard s m) (all_marks mode s) c.0 m e c.1 in
        let hit : (slot_of mode guard s (get_or (all_marks mode s) c.0 m) == slot_of mode guard s m) ≡ true = eq-eqb _ _ (ap (slot_of mode guard s) c.2) in
        absurd (cc)
    go (Some n) e =
        let some = mark_at-some mode guard s (slot_of mode guard s m) n e in
        e ∙ ap Some (slot_of-same mode guard s h n m some.0 in_m some.1)

-- a slot that no packet has is empty
pub mark_at-none : (mode : Mode) (guard : Guard) (s : Parameters) (i : ℕ) → ((m : Mark) → IsInFrame mode s m → slot_of mode guard s m ≢ i) → mark_at mode guard s i ≡ None
mark_at-none mode guard s i none = go (mark_at mode guard s i) refl
  where
    go : (o : Option Mark) → mark_at mode guard s i ≡ o → mark_at mode guard s i ≡ None
    go None e = e
    go (Some m) e = let some = mark_at-some mode guard s i m e in absurd (none m some.0 some.1)

pub mark_at-zero : (mode : Mode) (guard : Guard) (s : Parameters) → IsAccepted s → mark_at mode guard s 0 ≡ None
mark_at-zero mode guard s h = mark_at-none mode guard s 0 (λ m in_m e. let p = slot_of-positive mode guard s h m in_m in omega arith)
