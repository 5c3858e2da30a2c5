-- Each packet of a frame stands in the list of all packets at its own place.
use Rattle.std.proofs.Common.{◌≡◌, ℕ, suc, ◌+◌, ◌-◌, ◌<◌, ◌++◌, length, get_or, arith, ap, sym, ◌∙◌, inl, inr, subst, length-append}
use Rattle.std.specs.Prelude.{Contains}
use Rattle.std.proofs.lemmas.Bool.Decides.{leb_tells}
use Rattle.std.proofs.lemmas.List.{get_or_append_left, get_or-append_right}
use Rattle.std.proofs.lemmas.List.FromFn.{length-map-range_with_len, get_or-map-range_with_len}
use Rattle.isdbt_base.specs.declared.kinds.Mode.{Mode}
use Rattle.isdbt_base.specs.declared.kinds.Layer.{Layer}
use Rattle.isdbt_base.specs.declared.kinds.Layer.TheVariants.{A, B, C}
use Rattle.isdbt_base.specs.Parameters.{Parameters, layer_of, number_of, sum_before}
use Rattle.isdbt_base.specs.Numbers.{packets_per_frame, total_packets}
use Rattle.frame_order.specs.declared.mark.Mark.{Mark}
use Rattle.frame_order.specs.Order.{all_marks, layer_marks}
use Rattle.frame_order.specs.Places.{IsInFrame, place_of}

abbrev count : Mode → Parameters → Layer → ℕ
count mode s x = number_of (packets_per_frame mode) (layer_of s x)

length-layer_marks : (mode : Mode) (s : Parameters) (x : Layer) → length (layer_marks mode s x) ≡ count mode s x
length-layer_marks mode s x = length-map-range_with_len (λ j. record { layer = x; index = j }) 0 (count mode s x)

pub length-all_marks : (mode : Mode) (s : Parameters) → length (all_marks mode s) ≡ total_packets mode s
length-all_marks mode s =
    let a = length-layer_marks mode s A in
    let b = length-layer_marks mode s B in
    let c = length-layer_marks mode s C in
    let ab = length-append (layer_marks mode s A) (layer_marks mode s B) in
    let abc = length-append (layer_marks mode s A ++ layer_marks mode s B) (layer_marks mode s C) in
    omega arith

-- within a layer
at-layer : (mode : Mode) (s : Parameters) (x : Layer) (i : ℕ) (d : Mark) → i < count mode s x → get_or (layer_marks mode s x) i d ≡ record { layer = x; index = i }
at-layer mode s x i d h = get_or-map-range_with_len (λ j. record { layer = x; index = j }) 0 (count mode s x) i i d h (omega arith)

pub place_of-below : (mode : Mode) (s : Parameters) (m : Mark) → IsInFrame mode s m → place_of mode s m < total_packets mode s
place_of-below mode s m h = go m.layer m.index h
  where
    go : (x : Layer) (i : ℕ) → i < count mode s x → sum_before (packets_per_frame mode) s x + i < total_packets mode s
    go A i h = omega arith
    go B i h = omega arith
    go C i h = omega arith

pub at-place : (mode : Mode) (s : Parameters) (m : Mark) (d : Mark) → IsInFrame mode s m → get_or (all_marks mode s) (place_of mode s m) d ≡ m
at-place mode s m d h = go m.layer m.index h
  where
    go : (x : Layer) (i : ℕ) → i < count mode s x → get_or (all_marks mode s) (sum_before (packets_per_frame mode) s x + i) d ≡ record { layer = x; index = i }
    go A i h =
        let a = length-layer_marks mode s A in
        let ab = length-append (layer_marks mode s A) (layer_marks mode s B) in
        get_or_append_left (layer_marks mode s A ++ layer_marks mode s B) (layer_marks mode s C) d (0 + i) (omega arith)
        ∙ get_or_append_left (layer_marks mode s A) (layer_marks mode s B) d (0 + i) (omega arith)
        ∙ get_or-map-range_with_len (λ j. record { layer = A; index = j }) 0 (count mode s A) (0 + i) i d (omega arith) (omega arith)
    go B i h =
        let a = length-layer_marks mode s A in
        let b = length-layer_marks mode s B in
        let ab = length-append (layer_marks mode s A) (layer_marks mode s B) in
        get_or_append_left (layer_marks mode s A ++ layer_marks mode s B) (layer_marks mode s C) d (count mode s A + i) (omega arith)
        ∙ get_or-append_right (layer_marks mode s A) (layer_marks mode s B) (count mode s A) (count mode s A + i) d a (omega arith)
        ∙ get_or-map-range_with_len (λ j. record { layer = B; index = j }) 0 (count mode s B) (count mode s A + i - count mode s A) i d (omega arith) (omega arith)
    go C i h =
        let a = length-layer_marks mode s A in
        let b = length-layer_marks mode s B in
        let ab = length-append (layer_marks mode s A) (layer_marks mode s B) in
        get_or-append_right (layer_marks mode s A ++ layer_marks mode s B) (layer_marks mode s C) (count mode s A + count mode s B) (count mode s A + count mode s B + i) d (omega arith) (omega arith)
        ∙ get_or-map-range_with_len (λ j. record { layer = C; index = j }) 0 (count mode s C) (count mode s A + count mode s B + i - (count mode s A + count mode s B)) i d (omega arith) (omega arith)

-- each place has a packet
pub of-place : (mode : Mode) (s : Parameters) (i : ℕ) → i < total_packets mode s → (m : Mark) × IsInFrame mode s m × (place_of mode s m ≡ i)
of-place mode s i h =
    elim (leb_tells (suc i) (count mode s A)) [
      | inl in_a ↦ (record { layer = A; index = i }, in_a.1, omega arith)
      | inr not_a ↦ elim (leb_tells (suc i) (count mode s A + count mode s B)) [
        | inl in_b ↦ (record { layer = B; index = i - count mode s A }, omega (arith, in_b.1, not_a.1), omega (arith, in_b.1, not_a.1))
        | inr not_b ↦ (record { layer = C; index = i - (count mode s A + count mode s B) }, omega (arith, not_b.1), omega (arith, not_b.1))
      ]
    ]

-- the list has just the packets of the frame
pub all_marks-has : (mode : Mode) (s : Parameters) (m : Mark) → IsInFrame mode s m → Contains (all_marks mode s) m
all_marks-has mode s m h = let p = place_of-below mode s m h in let l = length-all_marks mode s in (place_of mode s m, omega arith, at-place mode s m m h)

pub all_marks-in : (mode : Mode) (s : Parameters) (i : ℕ) (d : Mark) → i < length (all_marks mode s) → IsInFrame mode s (get_or (all_marks mode s) i d)
all_marks-in mode s i d h =
    let l = length-all_marks mode s in
    let m = of-place mode s i (omega arith) in
    subst (λ n. IsInFrame mode s (get_or (all_marks mode s) n d)) m.2 (subst (λ n. IsInFrame mode s n) (sym (at-place mode s m.0 d m.1)) m.1)

pub all_marks-place : (mode : Mode) (s : Parameters) (i : ℕ) (d : Mark) → i < length (all_marks mode s) → place_of mode s (get_or (all_marks mode s) i d) ≡ i
all_marks-place mode s i d h =
    let l = length-all_marks mode s in
    let m = of-place mode s i (omega arith) in
    subst (λ n. place_of mode s (get_or (all_marks mode s) n d) ≡ n) m.2 (ap (place_of mode s) (at-place mode s m.0 d m.1))
