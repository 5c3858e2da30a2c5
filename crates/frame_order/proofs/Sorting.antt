-- What a list of the packets by rising clocks says of each packet.
use Rattle.std.proofs.Common.{◌≡◌, ◌≢◌, ℕ, List, length, get_or, map, arith, rules, ap, sym, ◌∙◌, subst}
use Rattle.std.specs.Prelude.{AllPairs, eqb}
use Rattle.std.specs.List.Sorted.{IsPermutation, IsNonDecreasing, IsNonDecreasingBy}
use Rattle.std.proofs.lemmas.Bool.Decides.{Decides-eqb}
use Rattle.std.proofs.lemmas.List.{get_or-map, length-map}
use Rattle.std.proofs.lemmas.Simd.{map-map}
use Rattle.std.proofs.lemmas.List.Sorted.{IsPermutation-map}
use Rattle.std.proofs.lemmas.Map.Keys.{IsDistinct-IsPermutation, IsStrictlyIncreasing-from_distinct}
use Rattle.std.proofs.lemmas.Map.Made.{IsDistinct-from_AllPairs}
use Rattle.isdbt_base.specs.declared.kinds.Mode.{Mode}
use Rattle.isdbt_base.specs.declared.kinds.Guard.{Guard}
use Rattle.isdbt_base.specs.declared.kinds.Layer.TheVariants.{A}
use Rattle.isdbt_base.specs.Parameters.{Parameters, IsAccepted}
use Rattle.frame_order.specs.declared.mark.Mark.{Mark}
use Rattle.frame_order.specs.declared.clocks.Timed.{Timed}
use Rattle.frame_order.specs.Order.{all_marks, clock_of}
use Rattle.frame_order.specs.Places.{place_of}
use Rattle.frame_order.specs.ClockOrder.{timed_of, IsClockOrder}
use Rattle.frame_order.proofs.ClockLaws.{clock_of-same}
use Rattle.frame_order.proofs.PlaceLaws.{all_marks-in, all_marks-place}

abbrev clocks : List Timed → List ℕ
clocks items = map (λ t. t.clock) items

-- no two packets of a frame have the same clock
apart : (mode : Mode) (guard : Guard) (s : Parameters) → IsAccepted s → AllPairs (λ x y. x ≢ y) (map (clock_of mode guard s) (all_marks mode s))
apart mode guard s h i j d below in_list e =
    let l : length (map (clock_of mode guard s) (all_marks mode s)) ≡ length (all_marks mode s) = length-map (all_marks mode s) (clock_of mode guard s) in
    let m : Mark = get_or (all_marks mode s) i (record { layer = A; index = 0 }) in
    let n : Mark = get_or (all_marks mode s) j (record { layer = A; index = 0 }) in
    let p = get_or-map (clock_of mode guard s) (all_marks mode s) i (record { layer = A; index = 0 }) d (omega arith) in
    let q = get_or-map (clock_of mode guard s) (all_marks mode s) j (record { layer = A; index = 0 }) d (omega arith) in
    let same : m ≡ n = clock_of-same mode guard s h m n (all_marks-in mode s i _ (omega arith)) (all_marks-in mode s j _ (omega arith)) (sym p ∙ e ∙ q) in
    let places : i ≡ j = sym (all_marks-place mode s i (record { layer = A; index = 0 }) (omega arith)) ∙ ap (place_of mode s) same ∙ all_marks-place mode s j _ (omega arith) in
    omega arith

flips : (x y : ℕ) → eqb x y ≡ eqb y x
flips x y = search rules

-- a list of all packets in an order in which the clocks do not fall
pub clock_order : (mode : Mode) (guard : Guard) (s : Parameters) (items : List Timed) → IsAccepted s →
    IsPermutation (map (timed_of mode guard s) (all_marks mode s)) items → IsNonDecreasingBy (λ t. t.clock) items → IsClockOrder mode guard s items
clock_order mode guard s items h permutation rising = record {
  permutation = permutation;
  rising = IsStrictlyIncreasing-from_distinct (clocks items) (numbers items rising)
      (IsDistinct-IsPermutation eqb flips (map (clock_of mode guard s) (all_marks mode s)) (clocks items)
      (subst (λ xs. IsPermutation xs (clocks items)) (map-map (λ t. t.clock) (timed_of mode guard s) (all_marks mode s)) (IsPermutation-map (λ t. t.clock) _ _ permutation))
      (IsDistinct-from_AllPairs Decides-eqb _ (apart mode guard s h)));
}
  where
    numbers : (items : List Timed) → IsNonDecreasingBy (λ t. t.clock) items → IsNonDecreasing (clocks items)
    numbers items up i j d le below =
        let l : length (clocks items) ≡ length items = length-map items (λ (t : Timed). t.clock) in
        let t : Timed = record { clock = 0; place = 0; mark = record { layer = A; index = 0 } } in
        let p = get_or-map (λ (t : Timed). t.clock) items i t d (omega arith) in
        let q = get_or-map (λ (t : Timed). t.clock) items j t d (omega arith) in
        let up_here = up i j t le (omega arith) in
        rw (p, q) up_here
