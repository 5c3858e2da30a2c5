-- Each input packet is placed in one frame.
use Rattle.std.proofs.Common.{◌≡◌, ℕ, zero, suc, ◌+◌, ◌≤◌, ◌<◌, List, None, Some, Option, sym, ap, ◌∙◌, subst, arith, inl, inr}
use Rattle.std.specs.Prelude.{if◌then◌else◌}
use Rattle.std.proofs.lemmas.Bool.{cases_lt, cases_Bool, ltb-true}
use Rattle.isdbt_base.specs.declared.kinds.Layer.{Layer}
use Rattle.isdbt_base.specs.declared.kinds.Layer.TheVariants.{A, B, C}
use Rattle.isdbt_base.specs.declared.kinds.Mode.{Mode}
use Rattle.isdbt_base.specs.LayerParameters.{LayerParameters}
use Rattle.isdbt_base.specs.Parameters.{Parameters, layer_of, number_of}
use Rattle.isdbt_base.specs.Numbers.{packets_per_frame, layer_delay, greatest_delay}
use Rattle.isdbt_base.specs.Plans.{Schedule, IsPlan, at_frame}
use Rattle.isdbt_base.specs.Epochs.{last_start, last_sent, leaves_after}
use Rattle.isdbt_base.proofs.OptionLaws.{option_cases}
use Rattle.isdbt_base.proofs.PlanEpochs.{epoch_start-le}
use Rattle.isdbt_base.proofs.EpochLaws.{IsBefore, epoch_frame, epoch_end, last_epoch, in_last}
use Rattle.remux_core.specs.Multiplex.{filled, placed_before, packet_count, data_frames, frame_count, frame_delay}
use Rattle.remux_core.specs.Frames.{packets_of}
use Rattle.remux_core.specs.Answers.{IsPlacedIn, HasPlace}
use Rattle.remux_core.proofs.Places.{placed_before-zero, placed_before-suc, placed_before-rise, used-last, data_frames-cover, frame_count-some, frame_count-least}

delay-le : (mode : Mode) (s : Parameters) (x : Layer) → number_of (layer_delay mode) (layer_of s x) ≤ greatest_delay mode s
delay-le mode s A = omega arith
delay-le mode s B = omega arith
delay-le mode s C = omega arith

-- the frame of a packet, among the first m frames
record PlacedBelow (p : Schedule) (x : Layer) (i m : ℕ) : Type 0 where
  frame : ℕ
  below : frame < m
  placed : IsPlacedIn p x i frame

place_below : (p : Schedule) (x : Layer) (i m : ℕ) → i < placed_before p x m → PlacedBelow p x i m
place_below p x i zero less = absurd (let e = placed_before-zero p x in omega (arith, e, less))
place_below p x i (suc m) less =
    elim (cases_lt i (placed_before p x m)) [
      | inl early ↦ (let k = place_below p x i m early in let b = k.below in record { frame = k.frame; below = omega (arith, b); placed = k.placed })
      | inr here ↦ (let s = placed_before-suc p x m in record { frame = m; below = omega arith; placed = (here, omega (arith, s, less)) })
    ]

-- no two frames place a packet
one_place : (p : Schedule) (x : Layer) (i f g : ℕ) → IsPlacedIn p x i f → IsPlacedIn p x i g → g ≡ f
one_place p x i f g a b =
    let from = a.0 in
    let below = a.1 in
    let from' = b.0 in
    let below' = b.1 in
    elim (cases_lt g f) [
      | inl less ↦ absurd (let s = placed_before-suc p x g in let k = placed_before-rise p x (suc g) f (omega (arith, less)) in omega (arith, s, k, from, below'))
      | inr ge ↦ elim (cases_lt f g) [
        | inl less ↦ absurd (let s = placed_before-suc p x f in let k = placed_before-rise p x (suc f) g (omega (arith, less)) in omega (arith, s, k, from', below))
        | inr le ↦ omega (arith, ge, le)
      ]
    ]

-- ---- a receiver gives the packet out within the epoch

filled_leaves : (f d e n : ℕ) → 0 < (if leaves_after f (Some e) d then n else 0) → f + d < e
filled_leaves f d e n some =
    elim (cases_Bool (leaves_after f (Some e) d)) [
      | inl leaves ↦ ltb-true (f + d) e leaves
      | inr short ↦ absurd (let k = rw short at some in omega (arith, k))
    ]

layer_leaves : (f e : ℕ) (mode : Mode) (o : Option LayerParameters) →
    0 < number_of (λ l. if leaves_after f (Some e) (layer_delay mode l) then packets_per_frame mode l else 0) o → f + number_of (layer_delay mode) o < e
layer_leaves f e mode None some = absurd (omega (arith, some))
layer_leaves f e mode (Some l) some = filled_leaves f (layer_delay mode l) e (packets_per_frame mode l) some

-- a frame that places a packet leaves the layer's delay after it
leaves : (p : Schedule) (x : Layer) (f e : ℕ) → (at_frame p f).end ≡ Some e → 0 < filled p x f → f + frame_delay p f x < e
leaves p x f e end some =
    layer_leaves f e (at_frame p f).mode (layer_of (at_frame p f).setting x)
    (subst (λ (o : Option ℕ). 0 < number_of (λ l. if leaves_after f o (layer_delay (at_frame p f).mode l) then packets_per_frame (at_frame p f).mode l else 0) (layer_of (at_frame p f).setting x)) end some)

start_same : (p : Schedule) (f g e : ℕ) → IsPlan p → (at_frame p f).end ≡ Some e → f ≤ g → g < e → (at_frame p g).start ≡ (at_frame p f).start
start_same p f g e plan end from below =
    let first = epoch_start-le p f in
    ap (λ at. at.start) (epoch_frame p f g plan (omega (arith, first, from)) (subst (IsBefore g) (sym end) below))

pub has_place : (p : Schedule) (input : Layer → List ℕ) (x : Layer) (i m : ℕ) → IsPlan p → 0 < packets_of p.first x → m ≡ frame_count p (packet_count input) →
    i < packet_count input x → HasPlace p x i m
has_place p input x i m plan some all within =
    elim (option_cases (at_frame p f).end) [
      | inl none ↦ (let past = in_last p f plan none in record {
        frame = f;
        placed = place.placed;
        only = λ other placed. one_place p x i f other place.placed placed;
        given_out = in_last_epoch past;
        same_epoch = start_last (f + frame_delay p f x) (omega (arith, past)) ∙ sym (start_last f past);
      })
      | inr is ↦ (let e = is.0 in
          let end : (at_frame p f).end ≡ Some is.0 = is.1 in
          let ends = epoch_end p f is.0 plan end in
          let early = ends.not_last in
          let least = frame_count-least p (packet_count input) in
          let from = place.placed.0 in
          let below = place.placed.1 in
          let room = leaves p x f is.0 end (omega (arith, from, below)) in
          record {
            frame = f;
            placed = place.placed;
            only = λ other placed. one_place p x i f other place.placed placed;
            given_out = omega (arith, room, early, least, all);
            same_epoch = start_same p f (f + frame_delay p f x) is.0 plan end (omega arith) room;
          })
    ]
  where
    place : PlacedBelow p x i (last_start p + data_frames p (packet_count input))
    place = place_below p x i (last_start p + data_frames p (packet_count input))
        (let covers = data_frames-cover p (packet_count input) x (data_frames p (packet_count input)) plan (omega arith) (used-last p x plan some) in omega (arith, covers, within))

    f : ℕ
    f = place.frame

    start_last : (g : ℕ) → last_start p ≤ g → (at_frame p g).start ≡ last_start p
    start_last g past = ap (λ at. at.start) (last_epoch p g plan past)

    in_last_epoch : last_start p ≤ f → f + frame_delay p f x < m
    in_last_epoch past =
        let below = place.below in
        let count = frame_count-some p (packet_count input) (omega (arith, below, past)) in
        let e = ap (λ at. number_of (layer_delay at.mode) (layer_of at.setting x)) (last_epoch p f plan past) in
        let delay = delay-le (last_sent p).mode (last_sent p).setting x in
        omega (arith, e, delay, below, count, all)
